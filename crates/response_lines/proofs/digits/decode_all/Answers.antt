-- Invariant: the first k bytes are written by the rule pair_at, the others are as they were. Rests on Segment.
use Rattle.std.proofs.Common.{length-set, refl}
use Rattle.ground.specs.Segment.{segment-none, fill-next, fill_end}
use native.Mathlib.Omega.{arith}
use Rattle.response_lines.proofs.digits.decode_all.Goals as goal

pub loop-k-init : goal.loop-k-init
loop-k-init c = (omega arith, refl, segment-none)

pub loop-k-preserved : goal.loop-k-preserved
loop-k-preserved c = let s = fill-next c.loop-k.invariant.2 (omega arith) c.pair.result c.pair.ensures in (omega arith, simp length-set c.loop-k.invariant.1, s)

pub returns : goal.returns
returns c = fill_end c.loop-k.invariant.2 refl (omega arith)
