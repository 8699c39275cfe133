-- `book_reader::field_size` meets its contract: the size that the cursor tells is the count of the bytes. Rests on Told.
use Rattle.book_reader.specs.Told.{size-at, size_none}
use Rattle.book_reader.proofs.cursor.field_size.Goals as goal

pub returns-in-Some : goal.returns-in-Some
returns-in-Some c = size-at _ _ c.field_at.ensures c.in-Some.is

pub returns-in-None : goal.returns-in-None
returns-in-None c = size_none _ _ c.field_at.ensures c.in-None.is
