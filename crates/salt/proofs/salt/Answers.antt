-- `salt::salt` meets its contract: the part from 16 bytes before the end, or from the end on, by what the rules of sets say of the length.
use Rattle.std.proofs.Common.{refl, sym, ap, ◌∙◌, drop}
use Rattle.ground.specs.AnswerLaws.{answer-done, answer-refused}
use Rattle.salt.specs.Salt.{salt_of, salt-long, part-from, start-done, start-refused}
use native.Mathlib.Omega.{arith}
use Rattle.salt.proofs.salt.Goals as goal

pub overflow_sub-start : goal.overflow_sub-start
overflow_sub-start c = omega (arith, salt-long _ _ (answer-done _ c.salt_refusal.ensures c.in-Ok.is))

pub returns-in-Ok : goal.returns-in-Ok
unfolding salt_of
returns-in-Ok c =
    let at = c.args in
    let e = start-done at.set at.signature.now (answer-done _ c.salt_refusal.ensures c.in-Ok.is) in
    record { contents = part-from at.signature.now _ ∙ ap (λ x. drop x at.signature.now) e; place = (refl, omega arith) }

pub returns-in-Err : goal.returns-in-Err
unfolding salt_of
returns-in-Err c =
    let at = c.args in
    let e = start-refused at.set at.signature.now (answer-refused _ c.salt_refusal.ensures c.in-Err.is) in
    record { contents = part-from at.signature.now _ ∙ ap (λ x. drop x at.signature.now) e; place = (refl, omega arith) }
