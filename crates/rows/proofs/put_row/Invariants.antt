-- `rows::put_row` meets its contract. The loop's invariant: the first e elements are written (packing's `written_next`).
use Rattle.std.proofs.Common.{◌+◌, ◌≤◌, get_or}
use Rattle.packing.specs.Written.{Written}
use Rattle.rows.proofs.put_row.Given as goal

abbrev pub invariant-loop-e : goal.invariant-loop-e
invariant-loop-e l = (l.e ≤ l.n) × Written l.initial.bytes l.from l.e (λ c. get_or l.row (l.at + c) 0) l.bytes
