-- `shake::squeeze` meets its contract. Invariant: the bytes of the first parts are written, and the output goes on with byte `at` of the present state.
-- Rests on the two laws of squeezing: behind a whole block, and the bytes of a lane.
use Rattle.std.proofs.Common.{◌≡◌, ℕ, ◌+◌, ◌*◌, ◌%◌, ◌≤◌, min, length}
use Rattle.ground.specs.Segment.{Segment}
use Rattle.shake.specs.Sponge.{squeezed}
use Rattle.shake.proofs.squeeze.Given as goal

abbrev pub invariant-loop-part : goal.invariant-loop-part
invariant-loop-part l = record {
  block : l.at ≤ l.rate;
  whole : l.at % 8 ≡ 0;
  written : Segment l.initial.out 0 (min (8 * l.part) (length l.initial.out)) (squeezed l.rate l.initial.lanes) l.out;
  ahead : (d : ℕ) → squeezed l.rate l.lanes (l.at + d) ≡ squeezed l.rate l.initial.lanes (8 * l.part + d);
}
