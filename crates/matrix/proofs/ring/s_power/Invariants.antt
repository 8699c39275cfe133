-- `matrix::s_power` meets its contract. The invariant: after i products the block is that of S to the i.
-- A callee with no `requires` asks nothing: `(λ _ _. tt)`.
use Rattle.std.proofs.Common.{◌≡◌, ◌≤◌}
use Rattle.matrix.specs.RingElements.{power_s}
use Rattle.matrix.specs.Block.{block}
use Rattle.matrix.proofs.ring.s_power.Given as goal

abbrev pub invariant-loop-i : goal.invariant-loop-i
invariant-loop-i l = (l.i ≤ l.k) × (l.power ≡ block l.l (power_s l.l l.i))
