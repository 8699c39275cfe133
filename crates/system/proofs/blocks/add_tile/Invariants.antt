-- `system::blocks::add_tile` meets its contract. The invariant: the first r rows have gained, and the next has its place. Rests on BlockRows and tables' Sums.
use Rattle.std.proofs.Common.{◌<◌, length}
use Rattle.matrix.specs.Block.{stride}
use Rattle.rows.specs.Tile.{tile}
use Rattle.matrix.specs.Matrix.{scale_m}
use Rattle.tables.specs.Sums.{Adding}
use Rattle.matrix.specs.BlockRows.{block_row}
use Rattle.system.specs.BlockRows.{RowFits}
use Rattle.system.proofs.blocks.add_tile.Given as goal

abbrev pub invariant-loop-r : goal.invariant-loop-r
invariant-loop-r l = record {
  turn : l.r < l.l → RowFits l.l l.w l.j l.k l.r (length l.table);
  rows : Adding l.initial.sum 0 l.l stride (block_row l.l (scale_m l.factor (tile l.l l.w l.table l.j l.k))) l.r l.sum;
}
