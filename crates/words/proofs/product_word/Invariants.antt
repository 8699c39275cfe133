-- `words::product_word` meets its contract. The loop's invariant: the first x columns of the matrices are done.
use Rattle.std.proofs.Common.{◌≡◌, ◌≤◌}
use Rattle.words.specs.Lookups.{column_lookups}
use Rattle.words.proofs.product_word.Given as goal

abbrev pub invariant-loop-x : goal.invariant-loop-x
invariant-loop-x l = (l.x ≤ l.l) × (l.w ≡ column_lookups l.table l.scalars l.first l.l l.place l.count l.x)
