-- `matrix::make_invertible` meets its contract: a refusal is handed up as it is (`invertible-stands`); what is not refused is searched (`invertible-asked`).
use Rattle.std.proofs.Common.{arith, rules}
use Rattle.ground.specs.AnswerLaws.{answer-done, answer-refused}
use Rattle.matrix.specs.LimitLaws.{allowed-most}
use Rattle.matrix.specs.PromiseLaws.{matrix-met, invertible-asked, invertible-stands}
use Rattle.matrix.proofs.make_invertible.Goals as goal

pub returns-in_err-check_matrix : goal.returns-in_err-check_matrix
returns-in_err-check_matrix c =
    rw (invertible-stands _ _ (answer-refused _ c.check_matrix.ensures c.in_err-check_matrix.was)) (search rules)

pub search-requires : goal.search-requires
search-requires c = omega (arith, allowed-most _ (matrix-met _ _ (answer-done _ c.check_matrix.ensures c.in_ok-check_matrix.was)).0)

pub returns : goal.returns
returns c =
    let zero = answer-done _ c.check_matrix.ensures c.in_ok-check_matrix.was in
    rw (invertible-asked _ _ zero) c.search.ensures
