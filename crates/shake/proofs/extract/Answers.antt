-- `shake::extract` meets its contract: what is squeezed from the finished state.
-- Rests on what `finish` and `squeeze` ensure.
use Rattle.std.proofs.Common.{ap, ◌∙◌, length}
use Rattle.ground.specs.Fill.{tab}
use Rattle.shake.specs.Sponge.{squeezed}
use Rattle.shake.specs.Feed.{output}
use Rattle.shake.proofs.extract.Goals as goal

pub returns : goal.returns
unfolding output
returns c =
    c.squeeze.ensures ∙ ap (λ s. tab (length c.args.out.now) (squeezed c.args.rate s)) c.finish.ensures
