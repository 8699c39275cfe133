-- `seeds::expansion::block` meets its contract: a sponge that took the seed and then the number's bytes gives the block.
-- Rests on shake's laws of a message in pieces and on its LaneBytes.
use Rattle.std.proofs.Common.{ap, ◌∙◌, ◌++◌}
use lib.Dec.{lit<}
use Rattle.shake.specs.Sponge.{shake128}
use Rattle.shake.specs.FeedLaws.{holds-first, holds_more}
use Rattle.shake.proofs.Messages.{holds-out}
use Rattle.shake.specs.LaneBytes.{lane-bytes}
use Rattle.seeds.specs.Seeds.{block, little_endian}
use Rattle.seeds.proofs.expansion.block.Goals as goal

pub returns : goal.returns
unfolding block little_endian
returns c =
    let message = holds_more (holds-first c.fresh.ensures c.absorb-s.ensures) c.absorb-t.ensures in
    holds-out (lit< tt) message 168 c.extract.ensures ∙ ap (λ n. shake128 (c.args.seed.now ++ n) 168) (c.to_le_bytes.ensures ∙ lane-bytes _)
