-- `book_writer::check_write` meets its contract: 45, 46 and 20 in this order. Rests on WritingAll.
use Rattle.std.proofs.Common.{sym, ap, ◌∙◌}
use Rattle.ground.specs.Answers.{number_of}
use Rattle.ground.specs.AnswerLaws.{demand-number}
use Rattle.ground.specs.declared.Refusal.TheVariants.{OutputLength}
use Rattle.book_writer.specs.WritingAll.{refuse-lists, refuse-order, refuse-blocks, refuse-output, fit-lengths}
use Rattle.book_writer.proofs.lists.check_write.Goals as goal

pub returns-then-not-lists_fit : goal.returns-then-not-lists_fit
returns-then-not-lists_fit c = refuse-lists _ _ _ _ _ (sym c.lists_fit.ensures ∙ c.if-not-lists_fit.true)

pub is_orderly-requires : goal.is_orderly-requires
is_orderly-requires c =
    let args = c.args in
    fit-lengths _ _ _ args.payload.now args.out.now (sym c.lists_fit.ensures ∙ c.if-not-lists_fit.false)

pub returns-then-not-is_orderly : goal.returns-then-not-is_orderly
returns-then-not-is_orderly c =
    refuse-order _ _ _ _ _ (sym c.lists_fit.ensures ∙ c.if-not-lists_fit.false) (sym c.is_orderly.ensures ∙ c.if-not-is_orderly.true)

pub returns-then-count-gt65536 : goal.returns-then-count-gt65536
returns-then-count-gt65536 c =
    refuse-blocks _ _ _ _ _ (sym c.lists_fit.ensures ∙ c.if-not-lists_fit.false) (sym c.is_orderly.ensures ∙ c.if-not-is_orderly.false)
    c.count_blocks-count.ensures c.if-count-gt65536.true

pub returns : goal.returns
returns c =
    refuse-output _ _ _ _ _ (sym c.lists_fit.ensures ∙ c.if-not-lists_fit.false) (sym c.is_orderly.ensures ∙ c.if-not-is_orderly.false)
    c.count_blocks-count.ensures c.if-count-gt65536.false (ap number_of c.demand.ensures ∙ demand-number _ OutputLength)
