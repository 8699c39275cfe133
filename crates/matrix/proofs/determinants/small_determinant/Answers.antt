-- `matrix::small_determinant` meets its contract: sizes 0, 1 and 2 written out (`det-none`, `det-one`, `det-two`).
use Rattle.std.proofs.Common.{sym, ap, ap₂, ◌∙◌}
use Rattle.field.specs.Field.{add, mul}
use Rattle.matrix.specs.Steps.{det-none, det-one, det-two}
use native.Mathlib.Omega.{arith}
use Rattle.matrix.proofs.determinants.small_determinant.Goals as goal

pub returns-then-n-eq0 : goal.returns-then-n-eq0
returns-then-n-eq0 c = sym (det-none _ c.if-n-eq0.true)

pub returns-then-n-eq1 : goal.returns-then-n-eq1
returns-then-n-eq1 c = c.mul.ensures ∙ ap (λ x. mul x 1) c.entry.ensures ∙ sym (det-one _ c.if-n-eq1.true)

pub returns : goal.returns
returns c =
    let down = c.mul-down.ensures ∙ ap₂ mul c.entry-2.ensures c.entry-3.ensures in
    let up = c.mul-up.ensures ∙ ap₂ mul c.entry-4.ensures c.entry-5.ensures in
    c.add.ensures ∙ ap₂ add down up ∙ sym (det-two _ (omega (arith, c.requires, c.if-n-eq0.false, c.if-n-eq1.false)))
