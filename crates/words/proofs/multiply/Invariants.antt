-- `words::multiply` meets its contract. The loop's invariant: the first k words are made.
use Rattle.std.proofs.Common.{◌≤◌}
use Rattle.words.specs.Multiples.{Multiplying}
use Rattle.words.proofs.multiply.Given as goal

abbrev pub invariant-loop-k : goal.invariant-loop-k
invariant-loop-k l = (l.k ≤ l.total) × Multiplying l.n l.src l.initial.table l.k l.table
