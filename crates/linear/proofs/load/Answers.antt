-- `linear::load` meets its contract: zeros that gained s times row r hold s times row r (`loaded`).
use Rattle.std.proofs.Common.{ap, ◌∙◌, ◌+◌}
use lib.ListN.{get_or-replicate}
use Rattle.sets.specs.Sets.{most_row}
use Rattle.field.specs.Field.{mul}
use Rattle.linear.specs.Row.{loaded}
use native.Mathlib.Omega.{arith}
use Rattle.linear.proofs.load.Goals as goal

pub returns : goal.returns
returns c =
    let a = c.args in
    loaded _ a.g.now _ a.n a.r a.s (λ i h. get_or-replicate most_row (0 + i) 0 0 (omega arith)) c.add_scaled.ensures
    (c.mul-right.ensures ∙ ap (mul a.s) c.entry.ensures)
