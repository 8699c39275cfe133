-- `field::power` meets its contract: the square of the power at half the exponent (`power-even`), times the base where the exponent is odd (`power-odd`).
use Rattle.std.proofs.Common.{ap₂, ap, ◌∙◌}
use Rattle.field.specs.Field.{mul}
use Rattle.field.specs.Powers.{power-none, power-even, power-odd}
use Rattle.field.proofs.+power.Goals as goal

pub returns-then-k-eq0 : goal.returns-then-k-eq0
returns-then-k-eq0 t c = power-none _ c.if-k-eq0.true

pub returns-then-k-eq1 : goal.returns-then-k-eq1
returns-then-k-eq1 t c =
    let half = c.power-half.ensures in
    c.mul.ensures ∙ ap (λ s. mul s c.args.a) (c.mul-square.ensures ∙ ap₂ mul half half) ∙ power-odd _ _ c.if-k-eq1.true

pub returns : goal.returns
returns t c =
    let half = c.power-half.ensures in
    c.mul-square.ensures ∙ ap₂ mul half half ∙ power-even _ _ c.if-k-eq1.false
