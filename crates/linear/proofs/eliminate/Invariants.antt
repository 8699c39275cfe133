-- `linear::eliminate` meets its contract. The invariant: the first k columns are the identity's, and the same vectors are sent to zero as at entry (`Progress`).
-- The answers are `solved` and `singular`.
use Rattle.linear.specs.Progress.{Progress}
use Rattle.linear.proofs.eliminate.Given as goal

abbrev pub invariant-loop-k : goal.invariant-loop-k
invariant-loop-k l = Progress l.initial.g l.n l.k l.g
