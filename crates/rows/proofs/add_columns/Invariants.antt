-- `rows::add_columns` meets its contract. The loop's invariant: x rows are added, and `from` is where the next begins. Rests on the laws of Combine.
use Rattle.std.proofs.Common.{◌+◌, ◌*◌, get_or}
use Rattle.rows.specs.Combine.{Combining}
use Rattle.rows.proofs.add_columns.Given as goal

abbrev pub invariant-loop-x : goal.invariant-loop-x
invariant-loop-x l =
    Combining l.initial.dst l.at l.n (λ y. get_or l.scalars (l.place + y * l.stride) 0) l.src l.first l.count l.x l.from l.dst
