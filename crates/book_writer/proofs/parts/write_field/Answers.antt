-- `book_writer::write_field` meets its contract: the first n parts are written, and the others are still to come. Rests on books' Going.
use Rattle.books.specs.Going.{field_next, field_end}
use native.Mathlib.Omega.{arith}
use Rattle.book_writer.proofs.parts.write_field.Goals as goal

pub loop-n-preserved : goal.loop-n-preserved
loop-n-preserved c =
    (omega arith, field_next _ _ _ c.loop-n.n _ c.loop-n.invariant.1 (omega arith) c.write_part.ensures)

pub returns : goal.returns
returns c =
    (omega arith, field_end _ _ _ c.loop-n.n _ (rw c.parts_in-count.ensures at c.loop-n.invariant.1) (omega arith) (omega arith))
