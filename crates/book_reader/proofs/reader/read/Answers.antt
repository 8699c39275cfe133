-- `book_reader::read` meets its contract: 40, or the first fault of whole blocks.
use Rattle.std.proofs.Common.{sym, ◌∙◌}
use Rattle.ground.specs.AnswerLaws.{demand-met}
use Rattle.book_reader.proofs.reader.read.Goals as goal

pub first_fault-requires : goal.first_fault-requires
first_fault-requires c = sym c.is_whole.ensures ∙ demand-met _ _ c.demand.ensures c.in_ok-demand.was
