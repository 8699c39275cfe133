-- `field::low_chosen` meets its contract: b % 2 is 0 in one arm and 1 in the other.
use Rattle.std.proofs.Common.{◌≡◌, sym, ◌%◌}
use native.Mathlib.Nat.{mul-one, mul-zero}
use native.Mathlib.Omega.{arith}
use Rattle.field.proofs.low_chosen.Goals as goal

pub returns-then-b-eq0 : goal.returns-then-b-eq0
returns-then-b-eq0 c = rw c.if-b-eq0.true (sym (mul-zero _))

pub returns-else-b-eq0 : goal.returns-else-b-eq0
returns-else-b-eq0 c = let odd : c.args.b % 2 ≡ 1 = omega arith in rw odd (sym (mul-one _))
