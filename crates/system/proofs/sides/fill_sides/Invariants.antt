-- `system::sides::fill_sides` meets its contract. The invariant: the first k blocks are there, zeros behind them, and the next has its block of the table. Rests on Sides and tables' Sums.
use Rattle.std.proofs.Common.{◌+◌, ◌*◌, ◌<◌, length}
use Rattle.matrix.specs.Block.{view, block_bytes}
use Rattle.matrix.specs.Promises.{coefficients}
use Rattle.tables.specs.Sums.{Adding}
use Rattle.system.specs.Sides.{side_of, side_row, TileFits}
use Rattle.system.proofs.sides.fill_sides.Given as goal

abbrev pub invariant-loop-k : goal.invariant-loop-k
invariant-loop-k l = record {
  turn : l.k < l.count → TileFits l.l l.w (l.row + l.k * l.across + 0 * l.down) (l.k * l.down + 0 * l.across) (length l.table);
  blocks : Adding l.initial.out 0 l.count block_bytes (side_row l.l (side_of l.l (view l.first) (coefficients l.q) l.table l.w l.row l.down l.across (view l.last))) l.k l.out;
}
