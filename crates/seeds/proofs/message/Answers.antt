-- `seeds::message` meets its contract: a sponge that took the three pieces holds the message.
-- Rests on shake's laws of a message in pieces.
use Rattle.std.proofs.Common.{rules}
use Rattle.shake.specs.FeedLaws.{holds-first, holds_more}
use Rattle.seeds.specs.Seeds.{target_message}
use Rattle.seeds.proofs.message.Goals as goal

pub returns : goal.returns
unfolding target_message
returns c =
    (search rules, holds_more (holds_more (holds-first c.fresh.ensures c.absorb-s.ensures) c.absorb-t.ensures) c.absorb.ensures)
