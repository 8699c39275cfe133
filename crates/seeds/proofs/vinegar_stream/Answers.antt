-- `seeds::vinegar_stream` meets its contract: a sponge that holds the message, and takes one byte more, gives SHAKE256 of both.
-- Rests on shake's laws of a message in pieces.
use lib.Dec.{lit<}
use Rattle.shake.specs.FeedLaws.{holds_more}
use Rattle.shake.proofs.Messages.{holds-out}
use Rattle.seeds.specs.Seeds.{target_message, vinegar_message}
use Rattle.seeds.proofs.vinegar_stream.Goals as goal

pub returns : goal.returns
unfolding target_message vinegar_message
returns c = holds-out (lit< tt) (holds_more c.message-s.ensures.1 c.absorb-t.ensures) _ c.extract.ensures
