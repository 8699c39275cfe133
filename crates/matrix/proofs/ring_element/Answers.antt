-- `matrix::ring_element` meets its contract: what is not refused has an allowed size and elements for coefficients.
use Rattle.std.proofs.Common.{arith}
use Rattle.ground.specs.AnswerLaws.{answer-done}
use Rattle.matrix.specs.LimitLaws.{allowed-least, allowed-most, coefficients-lt}
use Rattle.matrix.specs.PromiseLaws.{coefficients-met}
use Rattle.matrix.proofs.ring_element.Goals as goal

pub combination-requires : goal.combination-requires
combination-requires c =
    let met = coefficients-met _ _ (answer-done _ c.check_coefficients.ensures c.in_ok-check_coefficients.was) in
    let least = allowed-least _ met.0 in
    let most = allowed-most _ met.0 in
    (omega arith, (omega arith, coefficients-lt _ _ met.1 0 (omega arith)))
