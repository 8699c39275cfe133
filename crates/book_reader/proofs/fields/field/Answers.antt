-- `book_reader::field` meets its contract: the reader's refusals, then 20, then 1, or the four numbers. Rests on Told.
use Rattle.std.proofs.Common.{◌≡◌, length, eqb, false, Err, rules, sym, ap, ◌∙◌, eqb-true}
use Rattle.std.proofs.lemmas.Bool.{eqb-false}
use Rattle.ground.specs.Answers.{number_of}
use Rattle.ground.specs.AnswerLaws.{code-some, demand-met, demand-missed}
use Rattle.ground.specs.declared.Refusal.TheVariants.{OutputLength}
use Rattle.book_reader.specs.Told.{tells-refused, tells-20, tells_none, tells-field}
use Rattle.book_reader.proofs.fields.field.Goals as goal

pub returns-in_err-read : goal.returns-in_err-read
returns-in_err-read c =
    let at = c.args in
    let is : c.from_residual.result ≡ Err c.in_err-read.field-0.0 = search rules in
    rw is (tells-refused at.book.now at.b at.numbers.now (sym (ap number_of c.in_err-read.was) ∙ c.read.ensures) (code-some _))

pub returns-in_err-demand : goal.returns-in_err-demand
returns-in_err-demand c =
    let at = c.args in
    let missed : (eqb (length at.numbers.now) 4 ≡ false) × (c.in_err-demand.field-0.0 ≡ OutputLength) = demand-missed _ _ c.demand.ensures c.in_err-demand.was in
    let is : c.from_residual-in_err-demand.result ≡ Err OutputLength = search (rules, missed.1) in
    rw is (tells-20 at.book.now at.b at.numbers.now c.read.ensures (ap number_of c.in_ok-read.was) (eqb-false _ _ missed.0))

pub returns-in_default : goal.returns-in_default
returns-in_default c =
    let at = c.args in
    tells_none at.book.now at.b at.numbers.now c.read.ensures (ap number_of c.in_ok-read.was) (eqb-true _ _ (demand-met _ _ c.demand.ensures c.in_ok-demand.was))
    (sym c.field_at.ensures ∙ c.in_default.is)

pub returns : goal.returns
returns c =
    let at = c.args in
    tells-field at.book.now at.b at.numbers.now c.read.ensures (ap number_of c.in_ok-read.was) (eqb-true _ _ (demand-met _ _ c.demand.ensures c.in_ok-demand.was))
    (sym c.field_at.ensures ∙ c.in-Some.is) (rw (c.from.ensures, c.from-2.ensures) at c.copy_from_slice.ensures.after)
