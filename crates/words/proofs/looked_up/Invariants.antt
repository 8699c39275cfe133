-- `words::looked_up` meets its contract. The loop's invariant: w is the sum of the first x products, each of two look-ups.
use Rattle.std.proofs.Common.{◌≡◌, ◌≤◌}
use Rattle.words.specs.Lookups.{lookups}
use Rattle.words.proofs.looked_up.Given as goal

abbrev pub invariant-loop-x : goal.invariant-loop-x
invariant-loop-x l = (l.x ≤ l.count) × (l.w ≡ lookups l.table l.scalars l.first l.stride l.place l.step l.x)
