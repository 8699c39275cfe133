-- `system::sides::add_rows` meets its contract. The invariant: the first e rows have gained, and the next has its place. Rests on Sides and tables' Sums.
use Rattle.std.proofs.Common.{◌+◌, ◌*◌, ◌<◌}
use Rattle.tables.specs.Sums.{Adding}
use Rattle.system.specs.Sides.{row_gain, RowTurn}
use Rattle.system.proofs.sides.add_rows.Given as goal

abbrev pub invariant-loop-e : goal.invariant-loop-e
invariant-loop-e l = record {
  turn : l.e < l.l * l.l → RowTurn l.l (l.count * l.l * l.l + 1) l.e;
  rows : Adding l.initial.g l.at (l.l * l.l) (l.count * l.l * l.l + 1) (row_gain l.l l.count l.lefts l.rights) l.e l.g;
}
