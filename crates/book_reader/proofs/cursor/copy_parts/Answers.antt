-- `book_reader::copy_parts` meets its contract: what is still to be copied, so that the whole is. Rests on Parts.
use Rattle.std.proofs.Common.{sym, ◌∙◌}
use Rattle.book_reader.specs.Parts.{copy-room, copy-none, copy-asks, copy-next, copy-end}
use Rattle.book_reader.specs.Told.{bytes-none}
use native.Mathlib.Omega.{arith}
use Rattle.book_reader.proofs.cursor.copy_parts.Goals as goal

pub returns-then-book-b : goal.returns-then-book-b
returns-then-book-b c = bytes-none c.args.book.now c.args.b c.if-book-b.true c.requires

pub put_part-at-requires : goal.put_part-at-requires
put_part-at-requires c =
    copy-room c.args.output.now c.args.book.now c.args.b c.if-book-b.false c.requires c.part.ensures.contents

pub loop-output-init : goal.loop-output-init
loop-output-init c =
    copy-none _ _ c.if-book-b.false c.requires c.part.ensures.contents c.put_part-at.ensures.0 c.put_part-at.ensures.1

pub put_part-at-requires-in-loop-output : goal.put_part-at-requires-in-loop-output
put_part-at-requires-in-loop-output c =
    (copy-asks c.loop-output.invariant (sym c.loop-output-test.true ∙ c.goes_on.ensures) c.part-in-loop-output.ensures.contents).0

pub overflow_add-i-in-loop-output : goal.overflow_add-i-in-loop-output
overflow_add-i-in-loop-output c =
    omega (arith, (copy-asks c.loop-output.invariant (sym c.loop-output-test.true ∙ c.goes_on.ensures) c.part-in-loop-output.ensures.contents).1)

pub loop-output-smaller : goal.loop-output-smaller
loop-output-smaller c =
    omega (arith, (copy-asks c.loop-output.invariant (sym c.loop-output-test.true ∙ c.goes_on.ensures) c.part-in-loop-output.ensures.contents).1)

pub loop-output-preserved : goal.loop-output-preserved
loop-output-preserved c =
    copy-next c.loop-output.invariant (sym c.loop-output-test.true ∙ c.goes_on.ensures) c.part-in-loop-output.ensures.contents c.put_part-at-in-loop-output.ensures

pub returns : goal.returns
returns c =
    copy-end c.if-book-b.false c.requires c.part.ensures.contents c.put_part-at.ensures c.loop-output.invariant (sym c.loop-output-test.false ∙ c.goes_on.ensures)
