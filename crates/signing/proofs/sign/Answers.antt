-- `signing::sign` meets its contract: a refusal is handed up, else what `sign_lent` promises. Rests on Outcomes.
use Rattle.std.proofs.Common.{◌≡◌, Err, rules, sym, ap, ◌∙◌, true≢false}
use Rattle.ground.specs.Answers.{number_of}
use Rattle.ground.specs.AnswerLaws.{answer-done}
use Rattle.sets.specs.Bounds.{allowed-from}
use Rattle.checks.specs.Lent.{sign-lent}
use Rattle.signing.specs.Outcomes.{signs-refused}
use Rattle.signing.proofs.sign.Goals as goal

pub returns-in_err-check_sign : goal.returns-in_err-check_sign
returns-in_err-check_sign c =
    let a = c.args in
    let is : c.from_residual.result ≡ Err c.in_err-check_sign.field-0.0 = search rules in
    rw is (signs-refused a.set a.public.now a.abq.now a.private.now a.vinegar.now a.target.now a.salt.now a.work.now a.output.now _
    (sym (ap number_of c.in_err-check_sign.was) ∙ c.check_sign.ensures))

pub returns-in_err-set : goal.returns-in_err-set
returns-in_err-set c =
    let a = c.args in
    let lent = sign-lent a.set a.public.now a.abq.now a.private.now a.vinegar.now a.target.now a.salt.now a.work.now a.output.now
    (answer-done _ c.check_sign.ensures c.in_ok-check_sign.was) in
    absurd (true≢false (sym (allowed-from lent.bounds.limits) ∙ c.in_err-set.ensures.refused.1))

pub sign_lent-signed-requires : goal.sign_lent-signed-requires
sign_lent-signed-requires c = rw c.in_ok-set.ensures.made (answer-done _ c.check_sign.ensures c.in_ok-check_sign.was)
