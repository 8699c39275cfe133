-- `matrix::combination` meets its contract. The invariant: the block of S to the k, and the block of the first k terms of Algorithm 1's sum.
-- A callee with no `requires` asks nothing: `(λ _ _. tt)`.
use Rattle.std.proofs.Common.{◌≡◌, sym, ap, ◌∙◌, get_or}
use native.Mathlib.Omega.{arith}
use Rattle.matrix.specs.RingElements.{coefficient}
use Rattle.matrix.specs.Block.{block}
use Rattle.matrix.specs.Steps.{power_s-none, terms}
use Rattle.matrix.specs.RingSteps.{power-step, terms-start, terms-step, terms-all}
use Rattle.matrix.proofs.ring.combination.Goals as goal

pub loop-k-init : goal.loop-k-init
loop-k-init c = (omega arith, (c.one-power.ensures ∙ ap (block _) (sym (power_s-none _)), terms-start _ _ c.no_block-sum.ensures))

pub loop-k-preserved : goal.loop-k-preserved
loop-k-preserved c =
    let small = c.requires.1.0 in
    let powers = c.loop-k.invariant.1.0 in (
      omega arith,
      (
        power-step small c.loop-k.k c.s_matrix-s.ensures powers c.product-next.ensures,
        terms-step small _ c.loop-k.k c.loop-k.invariant.1.1 powers c.coefficient.ensures
            c.scaled-term.ensures c.plus-more.ensures,
      ),
    )

pub returns : goal.returns
returns c =
    let in' = c.args in
    let all : c.loop-k.k ≡ in'.l = omega (arith, c.loop-k.invariant.0, c.loop-k-test.false) in
    c.loop-k.invariant.1.1 ∙ ap (λ k. block in'.l (terms in'.l (coefficient in'.l (λ j. get_or in'.a j 0)) k)) all
    ∙ ap (block in'.l) (terms-all in'.l (λ j. get_or in'.a j 0))
