-- `book_writer::count_blocks` meets its contract: the blocks of the first i fields, or 65,537 where there are more. Rests on Lists.
use Rattle.std.proofs.Common.{refl}
use Rattle.book_writer.specs.Lists.{blocks, blocks_more}
use native.Mathlib.Omega.{arith}
use Rattle.book_writer.proofs.lists.count_blocks.Goals as goal

pub loop-size-init : goal.loop-size-init
unfolding blocks
loop-size-init c = refl

pub loop-size-preserved : goal.loop-size-preserved
loop-size-preserved c = omega (arith, blocks_more c.loop-size.size-index c.args.sizes.now)
