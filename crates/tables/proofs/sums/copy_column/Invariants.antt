-- `tables::sums::copy_column` meets its contract. The invariant: the first k bytes are copied. Rests on Columns.
use Rattle.std.proofs.Common.{◌+◌, ◌*◌, get_or}
use Rattle.tables.specs.Columns.{Copying}
use Rattle.tables.proofs.sums.copy_column.Given as goal

abbrev pub invariant-loop-k : goal.invariant-loop-k
invariant-loop-k l = Copying l.initial.dst l.at l.stride l.count (λ x. get_or l.src (l.from + x * l.step) 0) l.k l.dst
