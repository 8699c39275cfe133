-- `rows::add_elements` meets its contract. The loop's invariant: dst is the row at entry with the first c elements gained (`plus-next`).
use native.Mathlib.Omega.{arith}
use Rattle.std.proofs.Common.{rules}
use Rattle.field.specs.Field.{add}
use Rattle.rows.specs.Plus.{plus-next}
use Rattle.rows.proofs.add_elements.Goals as goal

pub loop-c-preserved : goal.loop-c-preserved
unfolding add
loop-c-preserved c = (search rules, plus-next c.loop-c.invariant.1 (omega arith) c.element.result c.element.ensures)
