-- `checks::all_invertible` meets its contract. The invariant: the first b blocks pass; the first that does not decides.
use Rattle.checks.specs.Passing.{Passing}
use Rattle.checks.proofs.invertible.all_invertible.Given as goal

abbrev pub invariant-loop-b : goal.invariant-loop-b
invariant-loop-b l = Passing l.set.l l.abq l.count l.b
