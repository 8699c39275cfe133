-- `model::sign_and_verify` meets its contract: each return is one way that the calls can go, by what the callees ensure.
-- Rests on Ways; a signature that was emitted is accepted, so the verdict does not refuse it, and the last return is never not accepted.
use Rattle.std.proofs.Common.{◌≡◌, Ok, Err, rules, ap, ◌∙◌}
use Rattle.ground.specs.AnswerLaws.{ok-not-err}
use Rattle.model.specs.Ways.{way-key-refused, way-sign-refused, way-redo, way-yes, way-accepted}
use Rattle.model.proofs.chain.sign_and_verify.Goals as goal

pub returns-in_err-generate : goal.returns-in_err-generate
returns-in_err-generate c =
    let is : c.from_residual.result ≡ Err c.in_err-generate.field-0.0 = search rules in
    rw is (way-key-refused c.generate.ensures c.in_err-generate.was)

pub returns-in_err-signed : goal.returns-in_err-signed
returns-in_err-signed c =
    let is : c.from_residual-in_err-signed.result ≡ Err c.in_err-signed.field-0.0 = search rules in
    rw is (way-sign-refused c.generate.ensures c.in_ok-generate.was c.sign.ensures c.in_err-signed.was)

pub returns-in-Redo : goal.returns-in-Redo
returns-in-Redo c = way-redo c.generate.ensures c.in_ok-generate.was c.sign.ensures (c.in_ok-signed.was ∙ ap Ok c.in-Redo.is)

-- no verdict on what was emitted is a refusal
pub returns-in_err-verdict-in-Done : goal.returns-in_err-verdict-in-Done
returns-in_err-verdict-in-Done c =
    let accepted = way-yes c.generate.ensures c.in_ok-generate.was c.sign.ensures (c.in_ok-signed.was ∙ ap Ok c.in-Done.is) c.verify.ensures in
    absurd (ok-not-err accepted c.in_err-verdict-in-Done.was)

pub returns-in_ok-verdict-in-Done : goal.returns-in_ok-verdict-in-Done
returns-in_ok-verdict-in-Done c =
    way-accepted c.generate.ensures c.in_ok-generate.was c.sign.ensures (c.in_ok-signed.was ∙ ap Ok c.in-Done.is) c.verify.ensures c.in_ok-verdict-in-Done.was c.judged.ensures
