-- `packing::put` meets its contract: the byte stored has x in one half and keeps the other.
-- Rests on `put_low` and `put-high`.
use native.Mathlib.Omega.{arith}
use Rattle.std.proofs.Common.{rules}
use Rattle.packing.proofs.Written.{put_low, put-high}
use Rattle.packing.proofs.put.Goals as goal

pub joined-requires : goal.joined-requires
joined-requires c = omega (arith, c.high_half.ensures)

pub joined-requires-else-e-eq0 : goal.joined-requires-else-e-eq0
joined-requires-else-e-eq0 c = omega (arith, c.low_half.ensures)

pub returns-then-e-eq0 : goal.returns-then-e-eq0
returns-then-e-eq0 c =
    let a = c.args in
    put_low a.s.now a.e a.x c.joined.result c.if-e-eq0.true (search rules) (search rules)
    (omega (arith, c.joined.ensures, c.high_half.ensures))

pub returns-else-e-eq0 : goal.returns-else-e-eq0
returns-else-e-eq0 c =
    let a = c.args in
    put-high a.s.now a.e a.x c.joined-else-e-eq0.result (omega arith) (search rules) (search rules)
    (omega (arith, c.joined-else-e-eq0.ensures, c.low_half.ensures))
