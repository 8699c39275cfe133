-- `packing::unpack_all` meets its contract. The loop's invariant: the first e elements are unpacked, and the others are as they were.
-- Rests on ground's Segment and on what `element` ensures.
use Rattle.std.proofs.Common.{refl}
use Rattle.ground.specs.Segment.{fill_end}
use Rattle.packing.specs.Packing.{packed_bytes, unpacked}
use native.Mathlib.Omega.{arith}
use Rattle.packing.proofs.unpack_all.Goals as goal

pub element-requires : goal.element-requires
unfolding packed_bytes
element-requires c = omega arith

pub returns : goal.returns
unfolding unpacked
returns c = fill_end c.loop-e.invariant.1 refl (omega arith)
