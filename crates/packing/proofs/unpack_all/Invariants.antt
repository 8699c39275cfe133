-- `packing::unpack_all` meets its contract. The loop's invariant: the first e elements are unpacked, and the others are as they were.
-- Rests on ground's Segment and on what `element` ensures.
use Rattle.std.proofs.Common.{◌≤◌, length}
use Rattle.ground.specs.Segment.{Segment}
use Rattle.packing.specs.Packing.{element}
use Rattle.packing.proofs.unpack_all.Given as goal

abbrev pub invariant-loop-e : goal.invariant-loop-e
invariant-loop-e l = (l.e ≤ length l.initial.elements) × Segment l.initial.elements 0 l.e (element l.bytes) l.elements
