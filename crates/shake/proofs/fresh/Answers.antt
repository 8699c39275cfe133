-- `shake::fresh` meets its contract: the code's sponge is the definition's, written out.
use Rattle.std.proofs.Common.{refl}
use Rattle.shake.specs.Feed.{fresh}
use Rattle.shake.proofs.fresh.Goals as goal

pub returns : goal.returns
unfolding fresh
returns c = record { sponge = refl; start = refl }
