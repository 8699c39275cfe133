-- `tables::add_power` meets its contract. The invariant: the first r rows of the power are added. Rests on PowerBlocks and matrix's blocks.
use Rattle.std.proofs.Common.{◌≤◌}
use Rattle.matrix.specs.RingElements.{power_s}
use Rattle.rows.specs.PlusRows.{PlusRows}
use Rattle.tables.proofs.powers.add_power.Given as goal

abbrev pub invariant-loop-r : goal.invariant-loop-r
invariant-loop-r l = (l.r ≤ l.l) × PlusRows l.initial.sp l.at l.r l.l (power_s l.l l.p) l.sp
