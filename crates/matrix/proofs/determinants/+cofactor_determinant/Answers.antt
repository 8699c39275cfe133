-- `matrix::determinant` and `matrix::cofactor` meet their contracts.
use Rattle.std.proofs.Common.{◌≡◌, sym, ap, ap₂, ◌∙◌, ◌-◌}
use native.Mathlib.Omega.{arith}
use Rattle.field.specs.Field.{add, mul}
use Rattle.matrix.specs.Determinant.{det, minor, det-same}
use Rattle.matrix.specs.Block.{view, holds}
use Rattle.matrix.specs.Steps.{column-none, column-more, column-all}
use Rattle.matrix.proofs.determinants.+cofactor_determinant.Goals as goal

pub cofactor-returns-then-n-eq3 : goal.cofactor-returns-then-n-eq3
cofactor-returns-then-n-eq3 t c =
    let three : c.args.n ≡ 3 = c.if-n-eq3.true in
    c.small_cofactor.ensures ∙ ap (λ k. det (k - 1) (minor (view c.args.m) c.args.r)) (sym three)

pub cofactor-returns : goal.cofactor-returns
cofactor-returns t c = c.determinant.ensures ∙ det-same _ (holds (omega arith) c.minor_of-rest.ensures)

pub determinant-loop-r-init : goal.determinant-loop-r-init
determinant-loop-r-init t c = (omega arith, sym (column-none _ _))

pub determinant-loop-r-preserved : goal.determinant-loop-r-preserved
determinant-loop-r-preserved t c =
    let term = c.mul.ensures ∙ ap₂ mul c.entry.ensures c.cofactor.ensures in
    (omega arith, c.add-sum.ensures ∙ ap₂ add c.loop-r.invariant.1 term ∙ sym (column-more _ _ c.loop-r.r))

pub determinant-returns : goal.determinant-returns
determinant-returns t c =
    let all : c.loop-r.r ≡ c.args.n = omega arith in
    cc (column-all c.args.n (view c.args.m) (omega arith))
