-- `packing::pack_all` meets its contract. The loop's invariant: the first j bytes are packed, and the others are as they were.
-- Rests on ground's Segment and on what `byte_of` ensures.
use Rattle.std.proofs.Common.{◌≤◌, length}
use Rattle.ground.specs.Segment.{Segment}
use Rattle.packing.specs.Packing.{byte_of}
use Rattle.packing.proofs.pack_all.Given as goal

abbrev pub invariant-loop-j : goal.invariant-loop-j
invariant-loop-j l = (l.j ≤ length l.initial.bytes) × Segment l.initial.bytes 0 l.j (byte_of l.elements) l.bytes
