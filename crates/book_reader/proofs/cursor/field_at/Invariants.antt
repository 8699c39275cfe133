-- `book_reader::field_at` meets its contract: from block b + 1 up to i the field goes on. Rests on Parts.
use Rattle.std.proofs.Common.{◌-◌, ◌/◌, length}
use Rattle.book_reader.specs.Parts.{Run}
use Rattle.book_reader.proofs.cursor.field_at.Given as goal

abbrev pub invariant-loop-more : goal.invariant-loop-more
invariant-loop-more l = Run l.book l.b l.initial.size l.size l.i

abbrev pub decreases-loop-more : goal.decreases-loop-more
decreases-loop-more l = length l.book / 512 - l.i
