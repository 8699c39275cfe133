-- The central map where the vinegar is known: a value without oil, and a part that is linear in the oil.
-- This is what signing solves. Rests on Map and Sum.
use Rattle.std.specs.Prelude.{◌≡◌, refl}
use Rattle.std.proofs.Common.{sym, ap, ap₂, ◌∙◌}
use Prim.Native.Nat.{ℕ, ◌+◌, ◌<◌}
use Rattle.algebra.specs.Ring.{Ring, Scaled, mul-zero, zero-mul, add_left_comm}
use Rattle.algebra.specs.Sum.{sum, sum-cong, sum_zeros, sum-add, mul-sum, sum-mul, scale-sum, sum-swap, double-add, double-split}
use Rattle.algebra.specs.Map.{value}

module _ {A : Type 0} (𝟘 : A) (◌⊕◌ ◌⊗◌ : A → A → A) (tr : A → A) where
  infixl 60 ◌⊕◌
  infixr 70 ◌⊗◌
  -- Page 01: the terms of the central map with exactly one oil index. Vinegar j is X j, oil k is X (v + k).
  unfoldable pub linear_part : (terms v o : ℕ) (L q : ℕ → A) (M : ℕ → ℕ → ℕ → A) (p B vinegar oil : ℕ → A) → A
  linear_part terms v o L q M p B vinegar oil = sum 𝟘 ◌⊕◌ terms (λ α. sum 𝟘 ◌⊕◌ v (λ j. sum 𝟘 ◌⊕◌ o (λ k.
      L α ⊗ tr (vinegar j) ⊗ q α ⊗ M α j (v + k) ⊗ p α ⊗ oil k ⊗ B α
      ⊕ L α ⊗ tr (oil k) ⊗ q α ⊗ M α (v + k) j ⊗ p α ⊗ vinegar j ⊗ B α)))

module _ {A : Type 0} {𝟘 : A} {◌⊕◌ ◌⊗◌ : A → A → A} {tr : A → A} (R : Ring 𝟘 ◌⊕◌ ◌⊗◌ tr) where
  infixl 60 ◌⊕◌
  infixr 70 ◌⊗◌
  -- Where no term has two oil indices, a value is that of the vinegar alone plus the linear part.
  pub value-split : {terms v o : ℕ} {vinegar oil X : ℕ → A} (L q : ℕ → A) (M : ℕ → ℕ → ℕ → A) (p B : ℕ → A)
      → ((α j k : ℕ) → α < terms → j < o → k < o → M α (v + j) (v + k) ≡ 𝟘)
      → ((j : ℕ) → j < v → X j ≡ vinegar j) → ((k : ℕ) → k < o → X (v + k) ≡ oil k)
      → value 𝟘 ◌⊕◌ ◌⊗◌ tr terms (v + o) L q M p B X
      ≡ value 𝟘 ◌⊕◌ ◌⊗◌ tr terms v L q M p B vinegar ⊕ linear_part 𝟘 ◌⊕◌ ◌⊗◌ tr terms v o L q M p B vinegar oil
  unfolding value linear_part
  value-split {terms} {v} {o} {vinegar} {oil} {X} L q M p B zeros e-vinegar e-oil = sum-cong R terms at ∙ sum-add R terms _ _
    where
      t : ℕ → A → A → A → A
      t α u m w = L α ⊗ tr u ⊗ q α ⊗ m ⊗ p α ⊗ w ⊗ B α

      at : (α : ℕ) → α < terms
          → sum 𝟘 ◌⊕◌ (v + o) (λ j. sum 𝟘 ◌⊕◌ (v + o) (λ k. t α (X j) (M α j k) (X k)))
          ≡ sum 𝟘 ◌⊕◌ v (λ j. sum 𝟘 ◌⊕◌ v (λ k. t α (vinegar j) (M α j k) (vinegar k)))
          ⊕ sum 𝟘 ◌⊕◌ v (λ j. sum 𝟘 ◌⊕◌ o (λ k. t α (vinegar j) (M α j (v + k)) (oil k) ⊕ t α (oil k) (M α (v + k) j) (vinegar j)))
      at α h =
          double-split R v o (λ j k. t α (X j) (M α j k) (X k))
          ∙ ap₂ ◌⊕◌ refl (ap₂ ◌⊕◌ (sum-swap R o v _) (sum_zeros R o (λ j hj. sum_zeros R o (λ k hk.
          ap (λ m. t α (X (v + j)) m (X (v + k))) (zeros α j k h hj hk) ∙ simp (zero-mul R, mul-zero R)))) ∙ R.add-zero _)
          ∙ R.add_assoc _ _ _
          ∙ ap₂ ◌⊕◌ (sum-cong R v (λ j hj. sum-cong R v (λ k hk. cc (e-vinegar j hj, e-vinegar k hk))))
          (sym (double-add R v o _ _) ∙ sum-cong R v (λ j hj. sum-cong R o (λ k hk. cc (e-vinegar j hj, e-oil k hk))))

  -- The linear part by oil index. What stands before oil k and what stands after it are sums over the vinegar.
  pub linear_part-by-oil : (terms v o : ℕ) (L q : ℕ → A) (M : ℕ → ℕ → ℕ → A) (p B vinegar oil : ℕ → A)
      → linear_part 𝟘 ◌⊕◌ ◌⊗◌ tr terms v o L q M p B vinegar oil
      ≡ sum 𝟘 ◌⊕◌ o (λ k. sum 𝟘 ◌⊕◌ terms (λ α.
      L α ⊗ sum 𝟘 ◌⊕◌ v (λ j. tr (vinegar j) ⊗ q α ⊗ M α j (v + k)) ⊗ p α ⊗ oil k ⊗ B α
      ⊕ L α ⊗ tr (oil k) ⊗ q α ⊗ sum 𝟘 ◌⊕◌ v (λ j. M α (v + k) j ⊗ p α ⊗ vinegar j) ⊗ B α))
  unfolding linear_part
  linear_part-by-oil terms v o L q M p B vinegar oil =
      sum-cong R terms (λ α h. sum-swap R v o _ ∙ sum-cong R o (λ k l.
      sum-add R v _ _ ∙ simp (mul-sum R, sum-mul R, R.mul_assoc))) ∙ sum-swap R terms o _

  module _ (terms v o : ℕ) (L q : ℕ → A) (M : ℕ → ℕ → ℕ → A) (p B vinegar : ℕ → A) where
    pub linear_part-add : (oil oil' : ℕ → A)
        → linear_part 𝟘 ◌⊕◌ ◌⊗◌ tr terms v o L q M p B vinegar (λ k. oil k ⊕ oil' k)
        ≡ linear_part 𝟘 ◌⊕◌ ◌⊗◌ tr terms v o L q M p B vinegar oil ⊕ linear_part 𝟘 ◌⊕◌ ◌⊗◌ tr terms v o L q M p B vinegar oil'
    unfolding linear_part
    linear_part-add oil oil' =
        sum-cong R terms (λ α h. sum-cong R v (λ j hj. sum-cong R o (λ k hk.
        simp (R.tr-add, R.mul-add, R.add-mul, R.add_assoc, add_left_comm R))) ∙ double-add R v o _ _) ∙ sum-add R terms _ _

    pub linear_part-scale : {scale : ℕ → A → A} → Scaled ◌⊕◌ ◌⊗◌ tr scale → (c : ℕ) (oil : ℕ → A)
        → linear_part 𝟘 ◌⊕◌ ◌⊗◌ tr terms v o L q M p B vinegar (λ k. scale c (oil k)) ≡ scale c (linear_part 𝟘 ◌⊕◌ ◌⊗◌ tr terms v o L q M p B vinegar oil)
    unfolding linear_part
    linear_part-scale C c oil = simp (scale-sum R C, C.scale-add, C.tr-scale, C.mul-scale, C.scale-mul)
