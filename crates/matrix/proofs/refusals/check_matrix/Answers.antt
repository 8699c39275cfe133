-- `matrix::check_matrix` meets its contract: an allowed size is below 5.
use Rattle.std.proofs.Common.{sym, ◌∙◌, arith}
use Rattle.ground.specs.AnswerLaws.{demand-met}
use Rattle.matrix.specs.LimitLaws.{allowed-most}
use Rattle.matrix.proofs.refusals.check_matrix.Goals as goal

pub entries_allowed-requires : goal.entries_allowed-requires
entries_allowed-requires c = omega (arith, allowed-most _ (sym c.size_allowed.ensures ∙ demand-met _ _ c.demand.ensures c.in_ok-demand.was))
