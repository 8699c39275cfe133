-- `blocks::block_at` meets its contract: the part is block b, by Steps.
use Rattle.blocks.specs.Steps.{block-part}
use Rattle.blocks.proofs.block.block_at.Goals as goal

pub returns : goal.returns
returns c = block-part c.args.b c.args.book.now c.requires
