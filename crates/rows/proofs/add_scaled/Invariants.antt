-- `rows::add_scaled` meets its contract. The loop's invariant: dst is the row at entry with the first i bytes gained. The byte gained is s · b (`mul-chosen`).
use Rattle.std.proofs.Common.{◌+◌, ◌≤◌, get_or}
use Rattle.field.specs.Field.{mul}
use Rattle.rows.specs.Plus.{Plus}
use Rattle.rows.proofs.add_scaled.Given as goal

abbrev pub invariant-loop-i : goal.invariant-loop-i
invariant-loop-i l = (l.i ≤ l.n) × Plus l.initial.dst l.at l.i (λ c. mul l.s (get_or l.src (l.from + c) 0)) l.dst
