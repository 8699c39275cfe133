-- `matrix::combination` meets its contract. The invariant: the block of S to the k, and the block of the first k terms of Algorithm 1's sum.
-- A callee with no `requires` asks nothing: `(λ _ _. tt)`.
use Rattle.std.proofs.Common.{◌≡◌, ◌≤◌, get_or}
use Rattle.matrix.specs.RingElements.{power_s, coefficient}
use Rattle.matrix.specs.Block.{block}
use Rattle.matrix.specs.Steps.{terms}
use Rattle.matrix.proofs.ring.combination.Given as goal

abbrev pub invariant-loop-k : goal.invariant-loop-k
invariant-loop-k l = (l.k ≤ l.l) × ((l.power ≡ block l.l (power_s l.l l.k)) × (l.sum ≡ block l.l (terms l.l (coefficient l.l (λ j. get_or l.a j 0)) l.k)))
