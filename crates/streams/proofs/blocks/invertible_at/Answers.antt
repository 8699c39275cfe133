-- `streams::invertible_at` meets its contract: of elements nothing but 21 is refused (`makes-read`).
use Rattle.streams.specs.Blocks.{makes-read}
use Rattle.streams.proofs.blocks.invertible_at.Goals as goal

pub returns : goal.returns
returns c =
    makes-read c.args.l c.args.stream.now c.args.number c.requires.0 c.read_block.ensures c.make_invertible.ensures
