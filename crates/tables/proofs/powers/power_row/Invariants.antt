-- `tables::power_row` meets its contract. The invariant: the rows for the first b powers are added, side by side. Rests on PowerRows and Turns.
use Rattle.tables.specs.PowerRows.{Powering}
use Rattle.tables.proofs.powers.power_row.Given as goal

abbrev pub invariant-loop-b : goal.invariant-loop-b
invariant-loop-b l = Powering l.initial.w l.at l.l l.list l.k l.sp l.x l.b l.w
