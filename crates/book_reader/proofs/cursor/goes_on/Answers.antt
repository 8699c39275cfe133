-- `book_reader::goes_on` meets its contract: past the end nothing goes on, and a block goes on where its part number is not 0. Rests on Parts.
use Rattle.book_reader.specs.Parts.{stops-at-end, goes-on-at}
use Rattle.book_reader.proofs.cursor.goes_on.Goals as goal

pub returns-then-book-b : goal.returns-then-book-b
returns-then-book-b c = stops-at-end c.args.book.now c.args.b c.if-book-b.true

pub returns : goal.returns
returns c = goes-on-at c.if-book-b.false c.block_at.ensures c.head_of-head.ensures
