-- `shake::shake` meets its contract: a fresh sponge that took the input gives the output.
-- Rests on the laws of a message in pieces.
use Rattle.shake.specs.FeedLaws.{holds-first}
use Rattle.shake.proofs.Messages.{holds-out}
use Rattle.shake.proofs.shake.Goals as goal

pub returns : goal.returns
returns c =
    holds-out c.requires.some (holds-first c.fresh.ensures c.absorb.ensures) _ c.extract.ensures
