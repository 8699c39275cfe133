-- A term of an equation, block by block, and the sum over alpha, term by term.
-- Rests on matrix's blocks and products, and on streams' terms.
use Rattle.std.specs.Prelude.{◌≡◌, refl, List, ℕ, ◌+◌, ◌≤◌}
use Rattle.std.proofs.Common.{sym, ap, ◌∙◌}
use Rattle.ground.specs.Fill.{tab}
use Rattle.algebra.specs.Sum.{sum-none, sum_more}
use Rattle.rows.specs.Zero.{zeros}
use Rattle.matrix.specs.Matrix.{Matrix, add_m, mul_m}
use Rattle.matrix.specs.MatrixRing.{matrices}
use Rattle.matrix.specs.Same.{Same, same_refl, same-equal, same-trans, same-mul, same_add}
use Rattle.matrix.specs.Block.{view, block, block_same, holds, block_bytes, stride}
use Rattle.matrix.specs.Steps.{terms-none}
use Rattle.matrix.specs.RingSteps.{terms-start}
use Rattle.matrix.specs.Promises.{no_block}
use Rattle.sets.specs.declared.Set.{Set}
use Rattle.scheme.specs.Maps.{sum_m}
use Rattle.streams.specs.declared.Term.{Term}
use Rattle.streams.specs.TermOf.{TermOf, coefficient-in}
use Rattle.terms.specs.Terms.{term_with, term_from}
use Rattle.terms.specs.Gathering.{gathered-cong}

-- ---- what was read is the term

pub term-with : {set : Set} {abq : List ℕ} {i alpha : ℕ} {t : Term} (sums : List ℕ) → set.l ≤ stride → TermOf set abq i alpha t
    → Same set.l (term_with set.l t sums) (term_from set abq sums i alpha)
unfolding term_with term_from
term-with {set} sums small t =
    same-mul (holds small t.a)
    (same-mul (same-equal (gathered-cong set.l sums (coefficient-in t.q1) (coefficient-in t.q2) t.index)) (holds small t.b))

-- ---- block by block

module _ {l : ℕ} (small : l ≤ stride) where
  -- a · (m · b)
  pub term_of : (a b : List ℕ) (Q : Matrix) {m right out : List ℕ} → m ≡ block l Q → right ≡ block l (mul_m l (view m) (view b))
      → out ≡ block l (mul_m l (view a) (view right)) → out ≡ block l (mul_m l (view a) (mul_m l Q (view b)))
  term_of a b Q m right out = out ∙ block_same (same-mul same_refl (same-trans (holds small right) (same-mul (holds small m) same_refl)))

  -- one term more
  pub sum_step : (f : ℕ → Matrix) (k : ℕ) {s t more : List ℕ} → s ≡ block l (sum_m k f) → t ≡ block l (f k) → more ≡ block l (add_m (view s) (view t))
      → more ≡ block l (sum_m (k + 1) f)
  sum_step f k s t more = more ∙ block_same (same_add (holds small s) (holds small t)) ∙ ap (block l) (sym (sum_more (matrices l) k f))

zero-block : zeros block_bytes ≡ no_block
unfolding no_block tab
zero-block = refl

-- no terms are held by zeros
pub sum-start : (l : ℕ) (f : ℕ → Matrix) → zeros block_bytes ≡ block l (sum_m 0 f)
sum-start l f = terms-start l (λ k. 0) zero-block ∙ ap (block l) (terms-none l (λ k. 0) ∙ sym (sum-none (matrices l) f))
