-- `packing::spread` meets its contract. The loop's invariant: k bytes are spread, each into its low and its high half.
use Rattle.std.proofs.Common.{sym, ◌∙◌, rules}
use Rattle.packing.proofs.Laws.{element-low, element-high}
use Rattle.packing.specs.Spread.{spread-next}
use native.Mathlib.Omega.{arith}
use Rattle.packing.proofs.spread.Goals as goal

pub loop-k-preserved : goal.loop-k-preserved
loop-k-preserved c =
    (search rules, spread-next c.loop-k.invariant.1 (omega arith) _ _ (c.low_half.ensures ∙ sym (element-low _ _)) (c.high_half.ensures ∙ sym (element-high _ _)))
