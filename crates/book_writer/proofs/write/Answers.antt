-- `book_writer::write` meets its contract: where nothing is refused, what `write_all` asks is there. Rests on WritingAll.
use Rattle.ground.specs.AnswerLaws.{answer-done}
use Rattle.book_writer.specs.WritingAll.{not-refused}
use Rattle.book_writer.proofs.write.Goals as goal

pub write_all-requires : goal.write_all-requires
write_all-requires c = not-refused _ _ _ _ _ (answer-done _ c.check_write.ensures c.in_ok-check_write.was)
