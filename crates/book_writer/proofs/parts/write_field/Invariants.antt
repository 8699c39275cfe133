-- `book_writer::write_field` meets its contract: the first n parts are written, and the others are still to come. Rests on books' Going.
use Rattle.std.proofs.Common.{◌+◌, ◌-◌, ◌*◌, ◌≤◌, drop}
use Rattle.books.specs.Going.{Going, cut_n}
use Rattle.book_writer.proofs.parts.write_field.Given as goal

abbrev pub invariant-loop-n : goal.invariant-loop-n
invariant-loop-n l = (l.n ≤ l.count) × Going l.initial.out l.b (cut_n l.count l.exercise l.kind 0 l.bytes) l.out (l.b + l.n) (cut_n (l.count - l.n) l.exercise l.kind l.n (drop (500 * l.n) l.bytes))
