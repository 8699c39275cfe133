-- The maps of page 01, over any ring: the sum over alpha, j and k, and the double sum over j and k in it.
-- The public and the central map are `value` at P and at F. Rests on Ring and Sum.
use Rattle.std.specs.Prelude.{◌≡◌, ◌≢◌, ℕ, ◌+◌, ◌<◌}
use Rattle.std.proofs.Common.{◌∙◌}
use Rattle.algebra.specs.Ring.{Ring, mul-zero, zero-mul, tr-zero}
use Rattle.algebra.specs.Sum.{sum, sum-cong, sum_zeros, sum_one, mul-sum, sum-mul, tr-sum, sum-swap, double-add, double-split}

module _ {A : Type 0} (𝟘 : A) (◌⊕◌ ◌⊗◌ : A → A → A) (tr : A → A) where
  infixr 70 ◌⊗◌
  -- Page 01: the sum over alpha, j, k of A(i,alpha) · Ujᵗ · Q1(i,alpha) · P(i',j,k) · Q2(i,alpha) · Uk · B(i,alpha).
  -- M alpha is the matrix that term alpha uses, so that the rule for i' is the caller's.
  unfoldable pub value : (terms n : ℕ) (L q : ℕ → A) (M : ℕ → ℕ → ℕ → A) (p B U : ℕ → A) → A
  value terms n L q M p B U =
      sum 𝟘 ◌⊕◌ terms (λ α. sum 𝟘 ◌⊕◌ n (λ j. sum 𝟘 ◌⊕◌ n (λ k. L α ⊗ tr (U j) ⊗ q α ⊗ M α j k ⊗ p α ⊗ U k ⊗ B α)))

  -- The double sum over j < n, k < m of ajᵗ · M(j,k) · bk.
  unfoldable pub quad : (n m : ℕ) (a : ℕ → A) (M : ℕ → ℕ → A) (b : ℕ → A) → A
  quad n m a M b = sum 𝟘 ◌⊕◌ n (λ j. sum 𝟘 ◌⊕◌ m (λ k. tr (a j) ⊗ M j k ⊗ b k))

module _ {A : Type 0} {𝟘 : A} {◌⊕◌ ◌⊗◌ : A → A → A} {tr : A → A} (R : Ring 𝟘 ◌⊕◌ ◌⊗◌ tr) where
  infixl 60 ◌⊕◌
  infixr 70 ◌⊗◌
  -- A value depends on its ingredients below `terms` and below n only.
  pub value-cong : (terms n : ℕ) {L L' q q' p p' B B' U U' : ℕ → A} {M M' : ℕ → ℕ → ℕ → A}
      → ((α : ℕ) → α < terms → L α ≡ L' α) → ((α : ℕ) → α < terms → q α ≡ q' α)
      → ((α j k : ℕ) → α < terms → j < n → k < n → M α j k ≡ M' α j k)
      → ((α : ℕ) → α < terms → p α ≡ p' α) → ((α : ℕ) → α < terms → B α ≡ B' α)
      → ((j : ℕ) → j < n → U j ≡ U' j)
      → value 𝟘 ◌⊕◌ ◌⊗◌ tr terms n L q M p B U ≡ value 𝟘 ◌⊕◌ ◌⊗◌ tr terms n L' q' M' p' B' U'
  unfolding value
  value-cong terms n eL eq eM ep eB eU =
      sum-cong R terms (λ α h. sum-cong R n (λ j hj. sum-cong R n (λ k hk.
      cc (eL α h, eq α h, eM α j k h hj hk, ep α h, eB α h, eU j hj, eU k hk))))

  pub value-zero : (terms n : ℕ) (L q : ℕ → A) (M : ℕ → ℕ → ℕ → A) (p B : ℕ → A) {U : ℕ → A} → ((j : ℕ) → j < n → U j ≡ 𝟘)
      → value 𝟘 ◌⊕◌ ◌⊗◌ tr terms n L q M p B U ≡ 𝟘
  unfolding value
  value-zero terms n L q M p B e = sum_zeros R terms (λ α h. sum_zeros R n (λ j hj. sum_zeros R n (λ k hk. simp (e k hk, zero-mul R, mul-zero R))))

  -- Only the first of the U is not zero.
  pub value-first : (terms n : ℕ) → 0 < n → (L q : ℕ → A) (M : ℕ → ℕ → ℕ → A) (p B U : ℕ → A) → ((j : ℕ) → j ≢ 0 → U j ≡ 𝟘)
      → value 𝟘 ◌⊕◌ ◌⊗◌ tr terms n L q M p B U ≡ sum 𝟘 ◌⊕◌ terms (λ α. L α ⊗ tr (U 0) ⊗ q α ⊗ M α 0 0 ⊗ p α ⊗ U 0 ⊗ B α)
  unfolding value
  value-first terms n some L q M p B U e =
      sum-cong R terms (λ α h.
      sum_one R n 0 _ some (λ j hj d. sum_zeros R n (λ k hk. simp (e j d, tr-zero R, zero-mul R, mul-zero R)))
      ∙ sum_one R n 0 _ some (λ k hk d. simp (e k d, zero-mul R, mul-zero R)))

  -- A and B come out of the double sum.
  pub value-quad : (terms n : ℕ) (L q : ℕ → A) (M : ℕ → ℕ → ℕ → A) (p B U : ℕ → A)
      → value 𝟘 ◌⊕◌ ◌⊗◌ tr terms n L q M p B U
      ≡ sum 𝟘 ◌⊕◌ terms (λ α. L α ⊗ quad 𝟘 ◌⊕◌ ◌⊗◌ tr n n U (λ j k. q α ⊗ M α j k ⊗ p α) U ⊗ B α)
  unfolding value quad
  value-quad terms n L q M p B U = simp (mul-sum R, sum-mul R, R.mul_assoc)

  pub quad-cong : (n m : ℕ) {a a' b b' : ℕ → A} {M M' : ℕ → ℕ → A}
      → ((j : ℕ) → j < n → a j ≡ a' j) → ((j k : ℕ) → j < n → k < m → M j k ≡ M' j k) → ((k : ℕ) → k < m → b k ≡ b' k)
      → quad 𝟘 ◌⊕◌ ◌⊗◌ tr n m a M b ≡ quad 𝟘 ◌⊕◌ ◌⊗◌ tr n m a' M' b'
  unfolding quad
  quad-cong n m ea eM eb = sum-cong R n (λ j hj. sum-cong R m (λ k hk. cc (ea j hj, eM j k hj hk, eb k hk)))

  pub quad-zero : (n m : ℕ) (a b : ℕ → A) {M : ℕ → ℕ → A} → ((j k : ℕ) → j < n → k < m → M j k ≡ 𝟘)
      → quad 𝟘 ◌⊕◌ ◌⊗◌ tr n m a M b ≡ 𝟘
  unfolding quad
  quad-zero n m a b e = sum_zeros R n (λ j hj. sum_zeros R m (λ k hk. rw (e j k hj hk, zero-mul R, mul-zero R)))

  pub quad-add-left : (n m : ℕ) (a a' : ℕ → A) (M : ℕ → ℕ → A) (b : ℕ → A)
      → quad 𝟘 ◌⊕◌ ◌⊗◌ tr n m (λ j. a j ⊕ a' j) M b ≡ quad 𝟘 ◌⊕◌ ◌⊗◌ tr n m a M b ⊕ quad 𝟘 ◌⊕◌ ◌⊗◌ tr n m a' M b
  unfolding quad
  quad-add-left n m a a' M b = simp (R.tr-add, R.add-mul) (double-add R n m _ _)

  pub quad-add-mid : (n m : ℕ) (a : ℕ → A) (M M' : ℕ → ℕ → A) (b : ℕ → A)
      → quad 𝟘 ◌⊕◌ ◌⊗◌ tr n m a (λ j k. M j k ⊕ M' j k) b ≡ quad 𝟘 ◌⊕◌ ◌⊗◌ tr n m a M b ⊕ quad 𝟘 ◌⊕◌ ◌⊗◌ tr n m a M' b
  unfolding quad
  quad-add-mid n m a M M' b = simp (R.add-mul, R.mul-add) (double-add R n m _ _)

  pub quad-add-right : (n m : ℕ) (a : ℕ → A) (M : ℕ → ℕ → A) (b b' : ℕ → A)
      → quad 𝟘 ◌⊕◌ ◌⊗◌ tr n m a M (λ k. b k ⊕ b' k) ≡ quad 𝟘 ◌⊕◌ ◌⊗◌ tr n m a M b ⊕ quad 𝟘 ◌⊕◌ ◌⊗◌ tr n m a M b'
  unfolding quad
  quad-add-right n m a M b b' = simp R.mul-add (double-add R n m _ _)

  pub quad-split : (v o : ℕ) (a : ℕ → A) (M : ℕ → ℕ → A) (b : ℕ → A)
      → quad 𝟘 ◌⊕◌ ◌⊗◌ tr (v + o) (v + o) a M b
      ≡ quad 𝟘 ◌⊕◌ ◌⊗◌ tr v v a M b ⊕ quad 𝟘 ◌⊕◌ ◌⊗◌ tr v o a (λ j k. M j (v + k)) (λ k. b (v + k))
      ⊕ (quad 𝟘 ◌⊕◌ ◌⊗◌ tr o v (λ j. a (v + j)) (λ j k. M (v + j) k) b
      ⊕ quad 𝟘 ◌⊕◌ ◌⊗◌ tr o o (λ j. a (v + j)) (λ j k. M (v + j) (v + k)) (λ k. b (v + k)))
  unfolding quad
  quad-split v o a M b = double-split R v o _

  -- A matrix T between M and what stands to the right belongs to either.
  pub quad-move-right : (n v o : ℕ) (a : ℕ → A) (M T : ℕ → ℕ → A) (u : ℕ → A)
      → quad 𝟘 ◌⊕◌ ◌⊗◌ tr n v a M (λ x. sum 𝟘 ◌⊕◌ o (λ k. T x k ⊗ u k))
      ≡ quad 𝟘 ◌⊕◌ ◌⊗◌ tr n o a (λ j k. sum 𝟘 ◌⊕◌ v (λ x. M j x ⊗ T x k)) u
  unfolding quad
  quad-move-right n v o a M T u = simp (mul-sum R, sum-mul R, R.mul_assoc) (sum-cong R n (λ j h. sum-swap R v o _))

  -- The same on the left, where T comes transposed.
  pub quad-move-left : (v o m : ℕ) (T M : ℕ → ℕ → A) (u b : ℕ → A)
      → quad 𝟘 ◌⊕◌ ◌⊗◌ tr v m (λ x. sum 𝟘 ◌⊕◌ o (λ k. T x k ⊗ u k)) M b
      ≡ quad 𝟘 ◌⊕◌ ◌⊗◌ tr o m u (λ k j. sum 𝟘 ◌⊕◌ v (λ x. tr (T x k) ⊗ M x j)) b
  unfolding quad
  quad-move-left v o m T M u b =
      simp (tr-sum R, R.tr-mul, mul-sum R, sum-mul R, R.mul_assoc)
      (sum-cong R v (λ x h. sum-swap R m o _) ∙ sum-swap R v o _ ∙ sum-cong R o (λ k h. sum-swap R v m _))
