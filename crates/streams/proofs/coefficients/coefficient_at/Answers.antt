-- `streams::coefficient_at` meets its contract: the last coefficient goes by Algorithm 1's rule, any other is the group's element.
use Rattle.std.proofs.Common.{ap₂, ◌∙◌, ◌*◌}
use Rattle.packing.proofs.Laws.{element-lt}
use Rattle.matrix.specs.RingElements.{last_coefficient, coefficient-last, coefficient-other}
use Rattle.streams.specs.Coefficients.{group-element, group-first}
use native.Mathlib.Omega.{arith}
use Rattle.streams.proofs.coefficients.coefficient_at.Goals as goal

pub returns-then-p-l : goal.returns-then-p-l
returns-then-p-l c = c.element-own.ensures ∙ group-element _ _ _ _ ∙ coefficient-other _ _ _ c.if-p-l.true

pub last_coefficient-requires : goal.last_coefficient-requires
last_coefficient-requires c = let a = c.args in omega (arith, c.element.ensures, element-lt a.stream.now (a.group * a.l))

pub returns : goal.returns
returns c =
    let own = c.element-own.ensures ∙ group-element _ _ _ _ in
    let first = c.element.ensures ∙ group-first _ _ _ in
    c.last_coefficient.ensures ∙ ap₂ last_coefficient own first ∙ coefficient-last _ _ _ c.if-p-l.false
