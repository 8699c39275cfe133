-- `matrix::s_power` meets its contract. The invariant: after i products the block is that of S to the i.
-- A callee with no `requires` asks nothing: `(λ _ _. tt)`.
use Rattle.std.proofs.Common.{sym, ap, ◌∙◌}
use native.Mathlib.Omega.{arith}
use Rattle.matrix.specs.Block.{block}
use Rattle.matrix.specs.Steps.{power_s-none}
use Rattle.matrix.specs.RingSteps.{power-step}
use Rattle.matrix.proofs.ring.s_power.Goals as goal

pub loop-i-init : goal.loop-i-init
loop-i-init c = (omega arith, c.one-power.ensures ∙ ap (block _) (sym (power_s-none _)))

pub loop-i-preserved : goal.loop-i-preserved
loop-i-preserved c =
    (omega arith, power-step c.requires c.loop-i.i c.s_matrix-s.ensures c.loop-i.invariant.1 c.product-next.ensures)
