-- `book_writer::count_blocks` meets its contract: the blocks of the first i fields, or 65,537 where there are more. Rests on Lists.
use Rattle.std.proofs.Common.{min, ◌≡◌}
use Rattle.book_writer.specs.Lists.{blocks}
use Rattle.book_writer.proofs.lists.count_blocks.Given as goal

abbrev pub invariant-loop-size : goal.invariant-loop-size
invariant-loop-size l = l.count ≡ min (blocks l.size-index l.sizes) 65537
