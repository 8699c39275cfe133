-- `tables::power_table` meets its contract. The invariant: the first y rows are filled. Rests on PowerRows, Table and Turns.
use Rattle.std.proofs.Common.{◌/◌, ◌%◌}
use Rattle.tables.specs.Table.{Filling}
use Rattle.tables.specs.PowerRows.{powers_row}
use Rattle.tables.proofs.powers.power_table.Given as goal

abbrev pub invariant-loop-y : goal.invariant-loop-y
invariant-loop-y l = Filling l.initial.w l.row l.count (λ z. powers_row l.l l.list (z / l.l) l.sp (z % l.l)) l.y l.w
