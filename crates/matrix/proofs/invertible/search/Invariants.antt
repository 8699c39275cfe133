-- `matrix::search` meets its contract. The invariant: the original is m still, what is tried is m + a·S, and no earlier shift served (`Searching`).
use Rattle.std.proofs.Common.{◌≡◌, ◌-◌}
use Rattle.matrix.specs.Block.{view}
use Rattle.matrix.specs.Searching.{Searching}
use Rattle.matrix.proofs.invertible.search.Given as goal

abbrev pub invariant-loop-trial : goal.invariant-loop-trial
invariant-loop-trial l = (l.trial.original ≡ l.initial.trial.original) × Searching l.l (view l.initial.trial.original) l.trial.a l.trial.tried

abbrev pub decreases-loop-trial : goal.decreases-loop-trial
decreases-loop-trial l = 15 - l.trial.a
