-- `terms::add_power_sum` meets its contract. The invariant: the first `row` rows have gained. Rests on Gain.
use Rattle.terms.specs.Gain.{Gaining}
use Rattle.terms.proofs.sums.add_power_sum.Given as goal

abbrev pub invariant-loop-row : goal.invariant-loop-row
invariant-loop-row l = Gaining l.l l.w l.j l.y l.at l.initial.sums l.row l.sums
