-- `checks::check_verdict` meets its contract: the lengths refuse first; where they do not, 21 decides. Rests on Checked.
use Rattle.std.proofs.Common.{[], ◌∷◌, length, rules, refl, sym, ap, ◌∙◌}
use Rattle.ground.specs.Answers.{number_of}
use Rattle.ground.specs.AnswerLaws.{answer-done, code-some}
use Rattle.sets.proofs.Bounds.{bounds}
use Rattle.refusals.specs.Rules.{verdict_rules}
use Rattle.refusals.specs.Fits.{verdict-fits}
use Rattle.scheme.specs.Refusals.{invertible_rule, verdict_refusals}
use Rattle.checks.specs.Checked.{length-refused, contents-decide}
use Rattle.checks.proofs.check_verdict.Goals as goal

pub returns-in_err-verdict_refusal : goal.returns-in_err-verdict_refusal
unfolding verdict_refusals
returns-in_err-verdict_refusal c =
    let a = c.args in
    let refused = sym (ap number_of c.in_err-verdict_refusal.was) ∙ c.verdict_refusal.ensures in
    rw (← length-refused (verdict_rules a.set (length a.public.now) (length a.abq.now) (length a.target.now) (length a.key.now) (length a.signature.now)) (invertible_rule a.set a.abq.now ∷ []) refused (code-some _)) (search rules)

pub all_invertible-requires : goal.all_invertible-requires
all_invertible-requires c =
    let a = c.args in
    let fits = verdict-fits a.set (length a.public.now) (length a.abq.now) (length a.target.now) (length a.key.now) (length a.signature.now)
    (answer-done _ c.verdict_refusal.ensures c.in_ok-verdict_refusal.was) in
    (bounds a.set fits.allowed, fits.abq)

pub returns : goal.returns
unfolding verdict_refusals verdict_rules
returns c =
    let a = c.args in
    contents-decide (verdict_rules a.set (length a.public.now) (length a.abq.now) (length a.target.now) (length a.key.now) (length a.signature.now))
    (invertible_rule a.set a.abq.now ∷ []) tt refl (answer-done _ c.verdict_refusal.ensures c.in_ok-verdict_refusal.was)
    c.all_invertible.ensures
