-- `system::sides::add_row` meets its contract. The invariant: the first q parts of l bytes have gained, and the next has its place. Rests on Sides and tables' Sums.
use Rattle.std.proofs.Common.{◌*◌, ◌<◌}
use Rattle.tables.specs.Sums.{Adding}
use Rattle.system.specs.Sides.{cell_gain, CellTurn}
use Rattle.system.proofs.sides.add_row.Given as goal

abbrev pub invariant-loop-q : goal.invariant-loop-q
invariant-loop-q l = record {
  turn : l.q < l.count * l.l → CellTurn l.l l.count l.r l.c l.q;
  parts : Adding l.initial.g l.at (l.count * l.l) l.l (cell_gain l.l l.lefts l.rights l.r l.c) l.q l.g;
}
