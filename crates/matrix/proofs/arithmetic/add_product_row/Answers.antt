-- `matrix::arithmetic::add_product_row` meets its contract. The invariant: the row has gained the first y terms of each entry. Rests on BlockRows.
use Rattle.matrix.specs.BlockRows.{product-row-none, product-row-next}
use native.Mathlib.Omega.{arith}
use Rattle.matrix.proofs.arithmetic.add_product_row.Goals as goal

pub loop-y-init : goal.loop-y-init
loop-y-init c =
    let a = c.args in
    (omega arith, product-row-none a.a.now a.b.now a.r)

pub loop-y-preserved : goal.loop-y-preserved
loop-y-preserved c =
    let a = c.args in
    (omega (arith, c.loop-y-test.true), product-row-next a.a.now a.b.now a.r c.loop-y.y c.loop-y.invariant.1 c.add_scaled.ensures)
