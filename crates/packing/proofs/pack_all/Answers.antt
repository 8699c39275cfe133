-- `packing::pack_all` meets its contract. The loop's invariant: the first j bytes are packed, and the others are as they were.
-- Rests on ground's Segment and on what `byte_of` ensures.
use Rattle.ground.specs.Segment.{fill_end}
use Rattle.packing.specs.Packing.{packed_bytes, packed}
use native.Mathlib.Omega.{arith}
use Rattle.packing.proofs.pack_all.Goals as goal

pub byte_of-requires : goal.byte_of-requires
unfolding packed_bytes
byte_of-requires c = (omega arith, c.requires.1)

pub returns : goal.returns
unfolding packed
returns c = fill_end c.loop-j.invariant.1 c.requires.0 (omega arith)
