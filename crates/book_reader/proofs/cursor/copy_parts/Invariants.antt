-- `book_reader::copy_parts` meets its contract: what is still to be copied, so that the whole is. Rests on Parts.
use Rattle.std.proofs.Common.{◌-◌, ◌/◌, length}
use Rattle.book_reader.specs.Parts.{Copying}
use Rattle.book_reader.proofs.cursor.copy_parts.Given as goal

abbrev pub invariant-loop-output : goal.invariant-loop-output
invariant-loop-output l = Copying l.book l.b l.initial.output l.initial.at l.output l.at l.i

abbrev pub decreases-loop-output : goal.decreases-loop-output
decreases-loop-output l = length l.book / 512 - l.i
