-- `matrix::arithmetic::product` meets its contract. The invariant: the first r rows have gained theirs. Rests on BlockRows.
use Rattle.std.proofs.Common.{◌≡◌, ◌≤◌, length}
use Rattle.rows.specs.Zero.{zeros}
use Rattle.matrix.specs.Matrix.{mul_m}
use Rattle.matrix.specs.Block.{view, block_bytes, stride}
use Rattle.rows.specs.PlusRows.{PlusRows}
use Rattle.matrix.specs.BlockRows.{block_row}
use Rattle.matrix.proofs.arithmetic.product.Given as goal

abbrev pub invariant-loop-r : goal.invariant-loop-r
invariant-loop-r l = (length l.out ≡ block_bytes) × ((l.r ≤ l.l) × PlusRows (zeros block_bytes) 0 l.r stride (block_row l.l (mul_m l.l (view l.a) (view l.b))) l.out)
