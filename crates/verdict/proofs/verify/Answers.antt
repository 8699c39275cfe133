-- `verdict::verify` meets its contract: a refusal is handed up; where there is none the comparison decides.
use Rattle.std.proofs.Common.{sym, ◌∙◌, true≢false}
use Rattle.ground.specs.AnswerLaws.{answer-done}
use Rattle.checks.specs.Lent.{verdict-lent}
use Rattle.verdict.proofs.verify.Goals as goal

pub returns-in_err-set : goal.returns-in_err-set
returns-in_err-set c =
    let lent = verdict-lent c.args.set c.args.public.now c.args.abq.now c.args.target.now c.args.key.now c.args.signature.now
    (answer-done _ c.check_verdict.ensures c.in_ok-check_verdict.was) in
    absurd (true≢false (sym lent.allowed ∙ c.in_err-set.ensures.refused.1))

pub accepts-requires : goal.accepts-requires
accepts-requires c =
    rw c.in_ok-set.ensures.made
    (verdict-lent c.args.set c.args.public.now c.args.abq.now c.args.target.now c.args.key.now c.args.signature.now
    (answer-done _ c.check_verdict.ensures c.in_ok-check_verdict.was))
