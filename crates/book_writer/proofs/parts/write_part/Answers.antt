-- `book_writer::write_part` meets its contract: one block made in its place. Rests on books' Going.
use Rattle.books.specs.Going.{part-pasted}
use Rattle.book_writer.proofs.parts.write_part.Goals as goal

pub returns : goal.returns
returns c =
    let n = c.from-at.ensures in
    part-pasted _ c.args.head c.min-end.result c.args.bytes.now (rw n at c.min-end.ensures) c.requires.1.1 c.requires.1.0 (rw n at c.fill.ensures)
