-- `field::inverse` meets its contract: the inverse is the fourteenth power (`inverse-is-fourteenth`).
-- A callee with no `requires` asks nothing: `(λ _ _. tt)`.
use Rattle.std.proofs.Common.{sym, ◌∙◌}
use Rattle.field.specs.Powers.{inverse-is-fourteenth}
use Rattle.field.proofs.inverse.Goals as goal

pub returns : goal.returns
returns c = c.power.ensures ∙ sym (inverse-is-fourteenth _)
