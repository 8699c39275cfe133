-- `book_writer::is_orderly` meets its contract: the first i fields are in order. Rests on Lists.
use Rattle.std.proofs.Common.{length}
use Rattle.book_writer.specs.Lists.{Ordered}
use Rattle.book_writer.proofs.lists.is_orderly.Given as goal

abbrev pub invariant-loop-i : goal.invariant-loop-i
invariant-loop-i l = Ordered l.exercises l.kinds l.sizes (length l.exercises) l.i l.rank
