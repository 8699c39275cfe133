-- `public_map::values::put_block` meets its contract. The invariant: the first e places hold their entries.
use Rattle.std.proofs.Common.{◌*◌, ◌/◌, ◌%◌, ◌≤◌}
use Rattle.ground.specs.Segment.{Segment}
use Rattle.matrix.specs.Block.{view}
use Rattle.public_map.proofs.values.put_block.Given as goal

abbrev pub invariant-loop-e : goal.invariant-loop-e
invariant-loop-e l = (l.e ≤ l.l * l.l) × Segment l.initial.values l.at l.e (λ e. view l.block (e / l.l) (e % l.l)) l.values
