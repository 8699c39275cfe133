-- `book_writer::sizes_fit` meets its contract: the sum of the first i sizes is within the bytes. Rests on Lists.
use Rattle.std.proofs.Common.{◌≤◌, ◌≡◌}
use Rattle.book_writer.specs.Lists.{total}
use Rattle.book_writer.proofs.lists.sizes_fit.Given as goal

abbrev pub invariant-loop-size : goal.invariant-loop-size
invariant-loop-size l = (l.at ≡ total l.size-index l.sizes) × (l.at ≤ l.bytes)
