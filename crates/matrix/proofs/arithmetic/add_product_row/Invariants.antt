-- `matrix::arithmetic::add_product_row` meets its contract. The invariant: the row has gained the first y terms of each entry. Rests on BlockRows.
use Rattle.std.proofs.Common.{◌*◌, ◌≤◌}
use Rattle.rows.specs.Plus.{Plus}
use Rattle.matrix.specs.Matrix.{mul_m}
use Rattle.matrix.specs.Block.{view, stride}
use Rattle.matrix.proofs.arithmetic.add_product_row.Given as goal

abbrev pub invariant-loop-y : goal.invariant-loop-y
invariant-loop-y l = (l.y ≤ l.l) × Plus l.initial.out (l.r * stride) l.l (mul_m l.y (view l.a) (view l.b) l.r) l.out
