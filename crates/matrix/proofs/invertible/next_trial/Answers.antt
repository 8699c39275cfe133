-- `matrix::next_trial` meets its contract: the original stays, and the next try is the original shifted by one more.
use Rattle.std.proofs.Common.{refl}
use Rattle.matrix.proofs.invertible.next_trial.Goals as goal

pub returns : goal.returns
returns c = record { original = refl; a = refl; tried = c.shifted-tried.ensures }
