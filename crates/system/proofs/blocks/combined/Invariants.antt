-- `system::blocks::combined` meets its contract. The invariant: the rows of the block have gained the first x terms, and the next has its block. Rests on BlockRows, tables' Sums and Sides.
use Rattle.std.proofs.Common.{◌≡◌, ◌+◌, ◌*◌, ◌<◌, length}
use Rattle.matrix.specs.Block.{block_bytes, stride}
use Rattle.rows.specs.Zero.{zeros}
use Rattle.rows.specs.Tile.{tile}
use Rattle.matrix.specs.Matrix.{scale_m}
use Rattle.matrix.specs.Promises.{coefficients}
use Rattle.tables.specs.Sums.{Summing}
use Rattle.matrix.specs.BlockRows.{block_row}
use Rattle.system.specs.Sides.{TileFits}
use Rattle.system.proofs.blocks.combined.Given as goal

abbrev pub invariant-loop-x : goal.invariant-loop-x
invariant-loop-x l = record {
  turn : l.x < l.l → TileFits l.l l.w (l.row + l.x * l.down) (l.column + l.x * l.across) (length l.table);
  room : length l.sum ≡ block_bytes;
  terms : Summing (zeros block_bytes) 0 l.l stride l.l (λ x. block_row l.l (scale_m (coefficients l.q x) (tile l.l l.w l.table (l.row + x * l.down) (l.column + x * l.across)))) l.x l.sum;
}
