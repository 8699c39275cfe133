-- `linear::clear_column` meets its contract. The invariant: the rows before row r have gained their factor times the pivot row (`PlusRows`); row r lies within the area.
use Rattle.std.proofs.Common.{◌+◌, ◌*◌, ◌<◌, ◌≤◌, length}
use Rattle.field.specs.Field.{mul}
use Rattle.rows.specs.PlusRows.{PlusRows}
use Rattle.linear.specs.System.{at}
use Rattle.linear.specs.Step.{factor}
use Rattle.linear.specs.Row.{row_at}
use Rattle.linear.proofs.clear_column.Given as goal

abbrev pub invariant-loop-r : goal.invariant-loop-r
invariant-loop-r l = record {
  upto : l.r ≤ l.n;
  ends : l.r < l.n → l.r * (l.n + 1) + (l.n + 1) ≤ length l.g;
  gained : PlusRows l.initial.g 0 l.r (l.n + 1) (λ r c. mul (factor l.k (at l.initial.g l.n) r) (row_at l.row l.n c)) l.g;
}
