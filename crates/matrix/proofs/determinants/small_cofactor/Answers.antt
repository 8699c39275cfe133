-- `matrix::small_cofactor` meets its contract: the two rows that are left, written out (`det-two`).
use Rattle.std.proofs.Common.{refl, sym, ap, ap₂, ◌∙◌}
use Rattle.field.specs.Field.{add, mul}
use Rattle.matrix.specs.Block.{view}
use Rattle.matrix.specs.Determinant.{minor, skip-lt}
use Rattle.matrix.specs.Steps.{det-two}
use native.Mathlib.Omega.{arith}
use Rattle.matrix.proofs.determinants.small_cofactor.Goals as goal

pub entry-requires : goal.entry-requires
entry-requires c = omega (arith, c.skip-first.ensures, skip-lt c.args.r 0 1 (omega arith))

pub entry-requires-2 : goal.entry-requires-2
entry-requires-2 c = omega (arith, c.skip-second.ensures, skip-lt c.args.r 1 2 (omega arith))

pub entry-requires-3 : goal.entry-requires-3
entry-requires-3 c = omega (arith, c.skip-second.ensures, skip-lt c.args.r 1 2 (omega arith))

pub entry-requires-4 : goal.entry-requires-4
entry-requires-4 c =
    omega (arith, c.skip-first.ensures, skip-lt c.args.r 0 1 (omega arith))

pub returns : goal.returns
unfolding minor
returns c =
    let m = view c.args.m in
    let first = c.skip-first.ensures in
    let second = c.skip-second.ensures in
    let first-left = c.entry.ensures ∙ ap (λ i. m i 1) first in
    let second-right = c.entry-2.ensures ∙ ap (λ i. m i 2) second in
    let down = c.mul-down.ensures ∙ ap₂ mul first-left second-right in
    let second-left = c.entry-3.ensures ∙ ap (λ i. m i 1) second in
    let first-right = c.entry-4.ensures ∙ ap (λ i. m i 2) first in
    let up = c.mul-up.ensures ∙ ap₂ mul second-left first-right in
    c.add.ensures ∙ ap₂ add down up ∙ sym (det-two (minor m c.args.r) refl)
