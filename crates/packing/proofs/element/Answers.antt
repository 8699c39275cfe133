-- `packing::element` meets its contract: an even element is the low half of its byte, an odd one the high half.
-- Rests on the two cases of an element by parity.
use Rattle.std.proofs.Common.{◌≡◌, sym, ◌∙◌, ◌%◌}
use native.Mathlib.Omega.{arith}
use Rattle.packing.proofs.Laws.{element-even, element-odd}
use Rattle.packing.proofs.element.Goals as goal

pub returns-then-e-eq0 : goal.returns-then-e-eq0
returns-then-e-eq0 c = c.low_half.ensures ∙ sym (element-even _ _ c.if-e-eq0.true)

pub returns-else-e-eq0 : goal.returns-else-e-eq0
returns-else-e-eq0 c =
    let odd : c.args.e % 2 ≡ 1 = omega arith in
    c.high_half.ensures ∙ sym (element-odd _ _ odd)
