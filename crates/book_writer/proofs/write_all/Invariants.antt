-- `book_writer::write_all` meets its contract: the first i fields are written, and the others are still to come. Rests on WritingAll.
use Rattle.book_writer.specs.WritingAll.{WritingAll}
use Rattle.book_writer.proofs.write_all.Given as goal

abbrev pub invariant-loop-i : goal.invariant-loop-i
invariant-loop-i l = WritingAll l.initial.out l.exercises l.kinds l.sizes l.payload l.out l.at l.b l.i
