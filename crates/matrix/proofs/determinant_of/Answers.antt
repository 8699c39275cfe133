-- `matrix::determinant_of` meets its contract: what is not refused has an allowed size.
use Rattle.std.proofs.Common.{arith}
use Rattle.ground.specs.AnswerLaws.{answer-done}
use Rattle.matrix.specs.LimitLaws.{allowed-most}
use Rattle.matrix.specs.PromiseLaws.{matrix-met}
use Rattle.matrix.proofs.determinant_of.Goals as goal

pub determinant-requires : goal.determinant-requires
determinant-requires c = omega (arith, allowed-most _ (matrix-met _ _ (answer-done _ c.check_matrix.ensures c.in_ok-check_matrix.was)).0)
