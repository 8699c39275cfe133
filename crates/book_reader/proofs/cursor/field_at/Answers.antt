-- `book_reader::field_at` meets its contract: from block b + 1 up to i the field goes on. Rests on Parts.
use Rattle.std.proofs.Common.{sym, ap, ◌∙◌, length}
use Rattle.book_reader.specs.Parts.{run_none, run-next, run_small, run_end, end-at}
use native.Mathlib.Omega.{arith}
use Rattle.book_reader.proofs.cursor.field_at.Goals as goal

pub returns-then-book-b : goal.returns-then-book-b
returns-then-book-b c = end-at c.args.book.now c.args.b c.if-book-b.true

pub loop-more-init : goal.loop-more-init
loop-more-init c = run_none _ _ _ c.if-book-b.false (ap length c.part-first.ensures.contents)

pub overflow_add-size : goal.overflow_add-size
overflow_add-size c = omega (arith, (run_small c.loop-more.invariant (sym c.loop-more-test.true ∙ c.goes_on.ensures) (ap length c.part-more.ensures.contents)).0)

pub overflow_add-i-in-loop-more : goal.overflow_add-i-in-loop-more
overflow_add-i-in-loop-more c = omega (arith, (run_small c.loop-more.invariant (sym c.loop-more-test.true ∙ c.goes_on.ensures) (ap length c.part-more.ensures.contents)).1)

pub loop-more-smaller : goal.loop-more-smaller
loop-more-smaller c = omega (arith, (run_small c.loop-more.invariant (sym c.loop-more-test.true ∙ c.goes_on.ensures) (ap length c.part-more.ensures.contents)).1)

pub loop-more-preserved : goal.loop-more-preserved
loop-more-preserved c = run-next _ c.loop-more.invariant (sym c.loop-more-test.true ∙ c.goes_on.ensures) (ap length c.part-more.ensures.contents)

pub returns : goal.returns
returns c =
    run_end c.loop-more.invariant c.if-book-b.false (sym c.loop-more-test.false ∙ c.goes_on.ensures) c.block_at.ensures c.head_of-head.ensures
    (ap length c.part-first.ensures.contents)
