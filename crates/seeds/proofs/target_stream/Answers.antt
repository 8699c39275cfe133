-- `seeds::target_stream` meets its contract: a sponge that holds the message gives SHAKE256 of it.
-- Rests on shake's laws of a message in pieces.
use lib.Dec.{lit<}
use Rattle.shake.proofs.Messages.{holds-out}
use Rattle.seeds.proofs.target_stream.Goals as goal

pub returns : goal.returns
returns c = holds-out (lit< tt) c.message.ensures.1 _ c.extract.ensures
