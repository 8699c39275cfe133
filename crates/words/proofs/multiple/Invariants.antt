-- `words::multiple` meets its contract. The loop's invariant: w is the word of the multiples of the bytes from c on.
use Rattle.std.proofs.Common.{◌≡◌, ◌≤◌}
use Rattle.words.specs.Multiples.{multiple_from}
use Rattle.words.proofs.multiple.Given as goal

abbrev pub invariant-loop-c : goal.invariant-loop-c
invariant-loop-c l = (l.c ≤ l.n) × (l.w ≡ multiple_from l.n l.row l.at l.p l.c)
