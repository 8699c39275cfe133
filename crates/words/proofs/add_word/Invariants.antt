-- `words::add_word` meets its contract. The loop's invariant: the first c elements are added, and the elements of `rest` are those behind them.
use Rattle.std.proofs.Common.{◌≡◌, ℕ, ◌+◌, ◌≤◌}
use Rattle.rows.specs.Plus.{Plus}
use Rattle.words.specs.Words.{nibble}
use Rattle.words.proofs.add_word.Given as goal

abbrev pub invariant-loop-c : goal.invariant-loop-c
invariant-loop-c l = (l.c ≤ l.n) × (Plus l.initial.dst l.at l.c (nibble l.w) l.dst × ((k : ℕ) → nibble l.rest k ≡ nibble l.w (l.c + k)))
