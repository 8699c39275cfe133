-- `checks::check_sign` meets its contract: the lengths refuse first; where they do not, 21 decides. Rests on Checked.
use Rattle.std.proofs.Common.{[], ◌∷◌, length, rules, refl, sym, ap, ◌∙◌}
use Rattle.ground.specs.Answers.{number_of}
use Rattle.ground.specs.AnswerLaws.{answer-done, code-some}
use Rattle.sets.proofs.Bounds.{bounds}
use Rattle.refusals.specs.Rules.{sign_rules}
use Rattle.refusals.specs.Fits.{sign_fits}
use Rattle.scheme.specs.Refusals.{invertible_rule, sign_refusals}
use Rattle.checks.specs.Checked.{length-refused, contents-decide}
use Rattle.checks.proofs.check_sign.Goals as goal

pub returns-in_err-sign_refusal : goal.returns-in_err-sign_refusal
unfolding sign_refusals
returns-in_err-sign_refusal c =
    let a = c.args in
    let refused = sym (ap number_of c.in_err-sign_refusal.was) ∙ c.sign_refusal.ensures in
    rw (← length-refused (sign_rules a.set (length a.public.now) (length a.abq.now) (length a.private.now) (length a.vinegar.now) (length a.target.now)
    (length a.salt.now) (length a.work.now) (length a.output.now)) (invertible_rule a.set a.abq.now ∷ []) refused (code-some _)) (search rules)

pub all_invertible-requires : goal.all_invertible-requires
all_invertible-requires c =
    let a = c.args in
    let fits = sign_fits a.set (length a.public.now) (length a.abq.now) (length a.private.now) (length a.vinegar.now) (length a.target.now)
    (length a.salt.now) (length a.work.now) (length a.output.now)
    (answer-done _ c.sign_refusal.ensures c.in_ok-sign_refusal.was) in
    (bounds a.set fits.allowed, fits.abq)

pub returns : goal.returns
unfolding sign_refusals sign_rules
returns c =
    let a = c.args in
    contents-decide (sign_rules a.set (length a.public.now) (length a.abq.now) (length a.private.now) (length a.vinegar.now) (length a.target.now)
    (length a.salt.now) (length a.work.now) (length a.output.now))
    (invertible_rule a.set a.abq.now ∷ []) tt refl (answer-done _ c.sign_refusal.ensures c.in_ok-sign_refusal.was)
    c.all_invertible.ensures
