-- `book_reader::first_fault` meets its contract: the blocks before b are passed, and `before` is the head of the last of them. Rests on Passed.
use Rattle.book_reader.specs.Passed.{Passed}
use Rattle.book_reader.proofs.reader.first_fault.Given as goal

abbrev pub invariant-loop-b : goal.invariant-loop-b
invariant-loop-b l = Passed l.book l.n l.b l.before
