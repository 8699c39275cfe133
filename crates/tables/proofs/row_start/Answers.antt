-- `tables::row_start` meets its contract: with r below l, the row's first element comes before the block's end, and that fits.
use native.Mathlib.Nat.{mul-le-mul_right}
use native.Mathlib.Omega.{arith}
use Rattle.tables.proofs.row_start.Goals as goal

pub overflow_mul-result-3 : goal.overflow_mul-result-3
overflow_mul-result-3 c = omega (arith, mul-le-mul_right c.args.l c.requires.0)

pub overflow_add-result : goal.overflow_add-result
overflow_add-result c = omega (arith, mul-le-mul_right c.args.l c.requires.0)
