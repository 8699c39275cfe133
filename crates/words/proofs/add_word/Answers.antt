-- `words::add_word` meets its contract. The loop's invariant: the first c elements are added, and the elements of `rest` are those behind them.
use Rattle.std.proofs.Common.{sym, ap, ◌∙◌, suc, rules}
use Rattle.rows.specs.Plus.{plus-next}
use Rattle.field.specs.Field.{add}
use Rattle.words.specs.Words.{nibble, nibble-first, nibble-next}
use native.Mathlib.Omega.{arith}
use Rattle.words.proofs.add_word.Goals as goal

pub loop-c-preserved : goal.loop-c-preserved
unfolding add
loop-c-preserved c = (
  search rules,
  (
    plus-next c.loop-c.invariant.1.0 (omega arith) _ (sym (nibble-first _) ∙ c.loop-c.invariant.1.1 0 ∙ ap (nibble _) (omega arith)),
    λ k. nibble-next _ k ∙ c.loop-c.invariant.1.1 (suc k) ∙ ap (nibble _) (omega arith),
  ),
)
