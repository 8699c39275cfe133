-- `rows::add_scaled` meets its contract. The loop's invariant: dst is the row at entry with the first i bytes gained. The byte gained is s · b (`mul-chosen`).
use Rattle.std.proofs.Common.{refl, ◌∙◌, rules}
use native.Mathlib.Omega.{arith}
use Rattle.field.specs.Field.{add}
use Rattle.field.specs.Laws.{mul-chosen}
use Rattle.rows.specs.Plus.{plus-next}
use Rattle.rows.proofs.add_scaled.Goals as goal

pub loop-i-preserved : goal.loop-i-preserved
unfolding add
loop-i-preserved c = (
  search rules,
  plus-next c.loop-i.invariant.1 (omega arith) c.chosen.result
      (c.chosen.ensures
      ∙ mul-chosen c.args.s _ _ _ _ _ refl c.twice-s2.ensures c.twice-s4.ensures c.twice-s8.ensures),
)
