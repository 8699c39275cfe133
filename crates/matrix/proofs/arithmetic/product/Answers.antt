-- `matrix::arithmetic::product` meets its contract. The invariant: the first r rows have gained theirs. Rests on BlockRows.
use Rattle.matrix.specs.Matrix.{mul_m}
use Rattle.matrix.specs.Block.{view}
use Rattle.rows.specs.PlusRows.{rows_next}
use Rattle.rows.specs.RowsJoin.{rows_end}
use Rattle.matrix.specs.BlockRows.{block-row, block-filled}
use native.Mathlib.Omega.{arith}
use Rattle.matrix.proofs.arithmetic.product.Goals as goal

pub loop-r-preserved : goal.loop-r-preserved
loop-r-preserved c =
    let a = c.args in (
      omega (arith, c.add_product_row.auto.out, c.loop-r.invariant.0),
      (
        omega (arith, c.loop-r-test.true),
        rows_next c.loop-r.invariant.1.1 (omega arith)
            (block-row (mul_m a.l (view a.a) (view a.b)) c.requires c.add_product_row.ensures),
      ),
    )

pub returns : goal.returns
returns c =
    block-filled _ (rows_end c.loop-r.invariant.1.1 c.loop-r.invariant.1.0 c.loop-r-test.false)
