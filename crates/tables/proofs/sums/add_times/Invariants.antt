-- `tables::sums::add_times` meets its contract. The invariant: the first y rows have gained. Rests on Sums.
use Rattle.tables.specs.Sums.{Adding, times_gain, rows_of}
use Rattle.tables.proofs.sums.add_times.Given as goal

abbrev pub invariant-loop-y : goal.invariant-loop-y
invariant-loop-y l = Adding l.initial.dst l.at l.m l.n (times_gain (rows_of l.count l.scalars) l.count (rows_of l.n l.src)) l.y l.dst
