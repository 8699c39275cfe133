-- The powers of S and Algorithm 1's sum, block by block, as the code forms them; and what Algorithm 1 reads.
-- Rests on Steps, Same and Block.
use Rattle.std.specs.Prelude.{◌≡◌, refl, Bool, true, false, List, ℕ, ◌+◌, ◌<◌, ◌≤◌}
use Rattle.std.proofs.Common.{sym, ap, ◌∙◌, arith}
use Rattle.ground.specs.Pick.{pick}
use Rattle.ground.specs.Fill.{tab, length-tab, get_or-tab}
use Rattle.algebra.specs.Sum.{sum-cong}
use Rattle.algebra.specs.Powers.{polynomial}
use Rattle.matrix.specs.Matrix.{zero_m, add_m, mul_m, scale_m}
use Rattle.matrix.specs.MatrixRing.{matrices}
use Rattle.matrix.specs.Same.{same-trans, same_add, same-mul, same_scale, same-equal}
use Rattle.matrix.specs.RingElements.{S, power_s, coefficient, algorithm1}
use Rattle.matrix.specs.Block.{view, block, block-ext, block_same, inside, cell-kept, holds, block_bytes, stride}
use Rattle.matrix.specs.Steps.{power_s-more, terms, terms-none, terms-more}
use Rattle.matrix.specs.Promises.{no_block}

-- ---- block by block

module _ {l : ℕ} (small : l ≤ stride) where
  pub power-step : (k : ℕ) {s p next : List ℕ} → s ≡ block l (S l) → p ≡ block l (power_s l k) → next ≡ block l (mul_m l (view s) (view p)) → next ≡ block l (power_s l (k + 1))
  power-step k s p next = next ∙ block_same (same-mul (holds small s) (holds small p)) ∙ ap (block l) (sym (power_s-more l k))

  pub terms-step : (c : ℕ → ℕ) (k : ℕ) {x : ℕ} {p t b more : List ℕ} → b ≡ block l (terms l c k) → p ≡ block l (power_s l k) → x ≡ c k
      → t ≡ block l (scale_m x (view p)) → more ≡ block l (add_m (view b) (view t)) → more ≡ block l (terms l c (k + 1))
  terms-step c k b p x t more =
      more
      ∙ block_same (same_add (holds small b) (same-trans (holds small t) (same-trans (same_scale _ (holds small p)) (same-equal (ap (λ y. scale_m y (power_s l k)) x)))))
      ∙ ap (block l) (sym (terms-more l c k))

kept-zero : (inside : Bool) → ◌≡◌ {A = ℕ} 0 (pick inside 0 0)
kept-zero true = refl
kept-zero false = refl

-- no terms are held by zeros
pub terms-start : (l : ℕ) (c : ℕ → ℕ) {b : List ℕ} → b ≡ no_block → b ≡ block l (terms l c 0)
unfolding no_block
terms-start l c e =
    e
    ∙ block-ext (tab block_bytes (λ e. 0)) l zero_m (length-tab block_bytes _)
    (λ k h. cell-kept l zero_m k (get_or-tab block_bytes (λ e. 0) k h ∙ kept-zero (inside l k)) (λ hr hc. refl))
    ∙ ap (block l) (sym (terms-none l c))

-- all of them are Algorithm 1's element
pub terms-all : (l : ℕ) (a : ℕ → ℕ) → terms l (coefficient l a) l ≡ algorithm1 l a
unfolding terms
terms-all l a = refl

-- ---- what Algorithm 1 reads

-- only the first l coefficients are read
coefficient-cong : (l : ℕ) {a b : ℕ → ℕ} → ((k : ℕ) → k < l → a k ≡ b k) → (k : ℕ) → k < l → coefficient l a k ≡ coefficient l b k
unfolding coefficient
coefficient-cong l {a} {b} e k h = rw (e k h, e 0 (omega arith))

pub algorithm1-cong : (l : ℕ) {a b : ℕ → ℕ} → ((k : ℕ) → k < l → a k ≡ b k) → algorithm1 l a ≡ algorithm1 l b
unfolding polynomial
algorithm1-cong l e = sum-cong (matrices l) l (λ k h. ap (λ x. scale_m x (power_s l k)) (coefficient-cong l e k h))
