-- `tables::sums::add_transposed` meets its contract. The invariant: the first y rows have gained. Rests on Sums.
use Rattle.tables.specs.Sums.{Adding, transposed_gain, rows_of}
use Rattle.tables.proofs.sums.add_transposed.Given as goal

abbrev pub invariant-loop-y : goal.invariant-loop-y
invariant-loop-y l = Adding l.initial.dst l.at l.m l.n (transposed_gain l.scalars l.place l.m l.count (rows_of l.n l.src)) l.y l.dst
