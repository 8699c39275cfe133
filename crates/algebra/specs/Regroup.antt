-- All powers of s at once: Q1 and Q2 are polynomials in s, so the double sums are taken once for each pair of powers,
-- and Q1 and Q2 enter by their coefficients only. Rests on Map and Powers.
use Rattle.std.specs.Prelude.{◌≡◌, ℕ, ◌<◌}
use Rattle.std.proofs.Common.{◌∙◌}
use Rattle.algebra.specs.Ring.{Ring, Scaled}
use Rattle.algebra.specs.Sum.{sum, sum-cong, mul-sum, sum-mul, scale-sum, sum-swap, double-swap}
use Rattle.algebra.specs.Map.{value, value-quad, quad}
use Rattle.algebra.specs.Powers.{Base, power, polynomial, power-tr}

module _ {A : Type 0} {𝟘 : A} {◌⊕◌ ◌⊗◌ : A → A → A} {tr : A → A} (R : Ring 𝟘 ◌⊕◌ ◌⊗◌ tr) {e s : A} (S : Base ◌⊗◌ tr e s)
    {scale : ℕ → A → A} (C : Scaled ◌⊕◌ ◌⊗◌ tr scale) where
  infixr 70 ◌⊗◌
  quad-regroup : (m n : ℕ) (a b : ℕ → ℕ) (M : ℕ → ℕ → A) (U : ℕ → A)
      → quad 𝟘 ◌⊕◌ ◌⊗◌ tr m m U (λ j k. polynomial 𝟘 ◌⊕◌ ◌⊗◌ scale e s n a ⊗ M j k ⊗ polynomial 𝟘 ◌⊕◌ ◌⊗◌ scale e s n b) U
      ≡ sum 𝟘 ◌⊕◌ n (λ x. sum 𝟘 ◌⊕◌ n (λ y. scale (a x) (scale (b y)
      (quad 𝟘 ◌⊕◌ ◌⊗◌ tr m m (λ j. power ◌⊗◌ e s x ⊗ U j) M (λ k. power ◌⊗◌ e s y ⊗ U k)))))
  unfolding quad polynomial
  quad-regroup m n a b M U = simp (mul-sum R, sum-mul R, scale-sum R C, C.scale-mul, C.mul-scale, R.tr-mul, power-tr R S, R.mul_assoc)
      (double-swap R m m n n _ ∙ sum-swap R n n _)

  pub value-regroup : {terms : ℕ} {q p : ℕ → A} (m n : ℕ) (a b : ℕ → ℕ → ℕ) (L : ℕ → A) (M : ℕ → ℕ → ℕ → A) (B U : ℕ → A)
      → ((α : ℕ) → α < terms → q α ≡ polynomial 𝟘 ◌⊕◌ ◌⊗◌ scale e s n (a α))
      → ((α : ℕ) → α < terms → p α ≡ polynomial 𝟘 ◌⊕◌ ◌⊗◌ scale e s n (b α))
      → value 𝟘 ◌⊕◌ ◌⊗◌ tr terms m L q M p B U
      ≡ sum 𝟘 ◌⊕◌ terms (λ α. L α ⊗ sum 𝟘 ◌⊕◌ n (λ x. sum 𝟘 ◌⊕◌ n (λ y. scale (a α x) (scale (b α y)
      (quad 𝟘 ◌⊕◌ ◌⊗◌ tr m m (λ j. power ◌⊗◌ e s x ⊗ U j) (M α) (λ k. power ◌⊗◌ e s y ⊗ U k))))) ⊗ B α)
  value-regroup {terms} m n a b L M B U eq ep =
      value-quad R _ _ _ _ _ _ _ _ ∙ sum-cong R terms (λ α h. rw (eq α h, ep α h, quad-regroup m n (a α) (b α) (M α) U))
