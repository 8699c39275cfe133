-- The public map at U is the central map at X, the private change of U: the heart of the scheme.
-- Keys and Change are page 01's rules for F, P22 and X. Rests on Map: the double sum, cut into its four blocks.
use Rattle.std.specs.Prelude.{◌≡◌, refl, ℕ, ◌+◌, ◌<◌}
use Rattle.std.proofs.Common.{sym, ap, ap₂, ◌∙◌}
use Rattle.algebra.specs.Ring.{Ring, zero-add, mul-zero, zero-mul, add_left_comm, add-self-left}
use Rattle.algebra.specs.Sum.{sum, sum-cong, mul-sum, sum-mul}
use Rattle.algebra.specs.Map.{value, value-quad, quad, quad-cong, quad-zero, quad-split, quad-add-left, quad-add-mid, quad-add-right, quad-move-left, quad-move-right}

-- F11 = P11, F12 = P12 + P11·T12, F21 = P21 + T12ᵗ·P11, F22 = 0, P22 = T12ᵗ·F12 + P21·T12, for one matrix.
-- The transpose is over blocks and entries: block (k, a) of T12ᵗ is the transpose of T a k.
module _ {A : Type 0} (𝟘 : A) (◌⊕◌ ◌⊗◌ : A → A → A) (tr : A → A) where
  infixl 60 ◌⊕◌
  infixr 70 ◌⊗◌
  pub record Keys (v o : ℕ) (T P F : ℕ → ℕ → A) : Type 0 where
    pub f11 : (j k : ℕ) → j < v → k < v → F j k ≡ P j k
    pub f12 : (j k : ℕ) → j < v → k < o → F j (v + k) ≡ P j (v + k) ⊕ sum 𝟘 ◌⊕◌ v (λ a. P j a ⊗ T a k)
    pub f21 : (k j : ℕ) → k < o → j < v → F (v + k) j ≡ P (v + k) j ⊕ sum 𝟘 ◌⊕◌ v (λ a. tr (T a k) ⊗ P a j)
    pub f22 : (j k : ℕ) → j < o → k < o → F (v + j) (v + k) ≡ 𝟘
    pub p22 : (j k : ℕ) → j < o → k < o
        → P (v + j) (v + k) ≡ sum 𝟘 ◌⊕◌ v (λ a. tr (T a j) ⊗ F a (v + k)) ⊕ sum 𝟘 ◌⊕◌ v (λ a. P (v + j) a ⊗ T a k)

-- The private linear change sends U to X: Xj = Uj + the sum over k of T12(j,k)·U(v+k), and oil unchanged.
module _ {A : Type 0} (𝟘 : A) (◌⊕◌ ◌⊗◌ : A → A → A) where
  infixl 60 ◌⊕◌
  infixr 70 ◌⊗◌
  pub record Change (v o : ℕ) (T : ℕ → ℕ → A) (U X : ℕ → A) : Type 0 where
    pub vinegar : (j : ℕ) → j < v → X j ≡ U j ⊕ sum 𝟘 ◌⊕◌ o (λ k. T j k ⊗ U (v + k))
    pub oil : (k : ℕ) → k < o → X (v + k) ≡ U (v + k)

module _ {A : Type 0} {𝟘 : A} {◌⊕◌ ◌⊗◌ : A → A → A} {tr : A → A} (R : Ring 𝟘 ◌⊕◌ ◌⊗◌ tr) where
  infixl 60 ◌⊕◌
  infixr 70 ◌⊗◌
  -- The private change is its own inverse.
  pub change-involution : {v o : ℕ} {T : ℕ → ℕ → A} {U X : ℕ → A} → Change 𝟘 ◌⊕◌ ◌⊗◌ v o T U X → Change 𝟘 ◌⊕◌ ◌⊗◌ v o T X U
  change-involution {v} {o} {T} {U} {X} C = record { vinegar = back; oil = λ k h. sym (C.oil k h) }
    where
      back : (j : ℕ) → j < v → U j ≡ X j ⊕ sum 𝟘 ◌⊕◌ o (λ k. T j k ⊗ X (v + k))
      back j h =
          let same : sum 𝟘 ◌⊕◌ o (λ k. T j k ⊗ X (v + k)) ≡ sum 𝟘 ◌⊕◌ o (λ k. T j k ⊗ U (v + k)) = sum-cong R o (λ k l. ap (λ x. T j k ⊗ x) (C.oil k l)) in
          rw (C.vinegar j h, same) (simp (R.add_assoc, R.add-self, R.add-zero))

  -- Without Q1 and Q2. O is the oil of U, and W = T12·O is what the change adds to its vinegar. Each block of F at X and P22 at O
  -- is written by blocks of P, F12, U, W and O; then what stands twice cancels.
  quad-composition : {v o : ℕ} {T P F : ℕ → ℕ → A} {U X : ℕ → A} → Keys 𝟘 ◌⊕◌ ◌⊗◌ tr v o T P F → Change 𝟘 ◌⊕◌ ◌⊗◌ v o T U X
      → quad 𝟘 ◌⊕◌ ◌⊗◌ tr (v + o) (v + o) U P U ≡ quad 𝟘 ◌⊕◌ ◌⊗◌ tr (v + o) (v + o) X F X
  quad-composition {v} {o} {T} {P} {F} {U} {X} K C =
      let Q : (n m : ℕ) → (ℕ → A) → (ℕ → ℕ → A) → (ℕ → A) → A = quad 𝟘 ◌⊕◌ ◌⊗◌ tr in
      let O : ℕ → A = λ k. U (v + k) in
      let W : ℕ → A = λ j. sum 𝟘 ◌⊕◌ o (λ k. T j k ⊗ O k) in
      let P12 : ℕ → ℕ → A = λ j k. P j (v + k) in
      let P21 : ℕ → ℕ → A = λ k j. P (v + k) j in
      let F12 : ℕ → ℕ → A = λ j k. F j (v + k) in
      let P-oo : Q o o O (λ j k. P (v + j) (v + k)) O ≡ Q v o W F12 O ⊕ Q o v O P21 W = quad-cong R o o (λ k h. refl) K.p22 (λ k h. refl)
      ∙ quad-add-mid R o o O _ _ O ∙ rw (quad-move-left R v o o T F12 O O, quad-move-right R o v o O P21 T O) in
      let F-vv : Q v v X F X ≡ Q v v U P U ⊕ Q v v W P U ⊕ (Q v v U P W ⊕ Q v v W P W) = quad-cong R v v C.vinegar K.f11 C.vinegar
      ∙ quad-add-right R v v _ P U W ∙ ap₂ ◌⊕◌ (quad-add-left R v v U W P U) (quad-add-left R v v U W P W) in
      let F-vo : Q v o X F12 (λ k. X (v + k)) ≡ Q v o U P12 O ⊕ Q v v U P W ⊕ Q v o W F12 O = quad-cong R v o C.vinegar (λ j k hj hk. refl) C.oil
      ∙ quad-add-left R v o U W F12 O ∙ ap (λ x. x ⊕ Q v o W F12 O) (quad-cong R v o (λ j h. refl) K.f12 (λ k h. refl)
      ∙ quad-add-mid R v o U P12 _ O) ∙ rw (quad-move-right R v v o U P T O) in
      let F-ov : Q o v (λ k. X (v + k)) (λ k j. F (v + k) j) X ≡ Q o v O P21 U ⊕ Q o v O P21 W ⊕ (Q v v W P U ⊕ Q v v W P W) = quad-cong R o v C.oil K.f21 C.vinegar
      ∙ quad-add-mid R o v O P21 _ _ ∙ ap₂ ◌⊕◌ (quad-add-right R o v O P21 U W) (quad-add-right R o v O _ U W)
      ∙ rw (quad-move-left R v o v T P O U, quad-move-left R v o v T P O W) in
      let F-oo : Q o o (λ k. X (v + k)) (λ j k. F (v + j) (v + k)) (λ k. X (v + k)) ≡ 𝟘 = quad-zero R o o _ _ K.f22 in
      rw (quad-split R v o U P U, quad-split R v o X F X, P-oo, F-vv, F-vo, F-ov, F-oo)
      (simp (R.add_assoc, R.add_comm, add_left_comm R, R.add-self, add-self-left R, zero-add R))

  -- Q1 and Q2 around a sum, when one factor of each term commutes with the one that it meets.
  between_left : (q p : A) (v : ℕ) (t m : ℕ → A) → ((a : ℕ) → a < v → t a ⊗ q ≡ q ⊗ t a)
      → q ⊗ sum 𝟘 ◌⊕◌ v (λ a. t a ⊗ m a) ⊗ p ≡ sum 𝟘 ◌⊕◌ v (λ a. t a ⊗ q ⊗ m a ⊗ p)
  between_left q p v t m c = simp (mul-sum R, sum-mul R) (sum-cong R v (λ a h. simp (← R.mul_assoc, c a h)))

  between-right : (q p : A) (v : ℕ) (m t : ℕ → A) → ((a : ℕ) → a < v → t a ⊗ p ≡ p ⊗ t a)
      → q ⊗ sum 𝟘 ◌⊕◌ v (λ a. m a ⊗ t a) ⊗ p ≡ sum 𝟘 ◌⊕◌ v (λ a. (q ⊗ m a ⊗ p) ⊗ t a)
  between-right q p v m t c = simp (mul-sum R, sum-mul R, R.mul_assoc) (sum-cong R v (λ a h. rw (c a h)))

  between-add : (q p a b : A) → q ⊗ (a ⊕ b) ⊗ p ≡ q ⊗ a ⊗ p ⊕ q ⊗ b ⊗ p
  between-add q p a b = rw (R.add-mul, R.mul-add)

  -- The keys' rules hold of Q1·P·Q2 and Q1·F·Q2, since T12 is symmetric in its entries and commutes with Q1 and Q2.
  between-keys : {v o : ℕ} {T P F : ℕ → ℕ → A} (q p : A)
      → ((j k : ℕ) → j < v → k < o → tr (T j k) ≡ T j k)
      → ((j k : ℕ) → j < v → k < o → T j k ⊗ q ≡ q ⊗ T j k)
      → ((j k : ℕ) → j < v → k < o → T j k ⊗ p ≡ p ⊗ T j k)
      → Keys 𝟘 ◌⊕◌ ◌⊗◌ tr v o T P F → Keys 𝟘 ◌⊕◌ ◌⊗◌ tr v o T (λ j k. q ⊗ P j k ⊗ p) (λ j k. q ⊗ F j k ⊗ p)
  between-keys {v} {o} {T} {P} {F} q p s cq cp K = record {
    f11 = λ j k hj hk. rw (K.f11 j k hj hk);
    f12 = λ j k hj hk. rw (K.f12 j k hj hk, between-add) (ap (λ x. q ⊗ P j (v + k) ⊗ p ⊕ x) (between-right q p v _ _ (λ a h. cp a k h hk)));
    f21 = λ k j hk hj. rw (K.f21 k j hk hj, between-add) (ap (λ x. q ⊗ P (v + k) j ⊗ p ⊕ x) (between_left q p v _ _ (left k hk)));
    f22 = λ j k hj hk. rw (K.f22 j k hj hk, zero-mul R, mul-zero R);
    p22 = λ j k hj hk. rw (K.p22 j k hj hk, between-add) (ap₂ ◌⊕◌ (between_left q p v _ _ (left j hj)) (between-right q p v _ _ (λ a h. cp a k h hk)));
  }
    where
      left : (k : ℕ) → k < o → (a : ℕ) → a < v → tr (T a k) ⊗ q ≡ q ⊗ tr (T a k)
      left k hk a h = rw (s a k h hk) (cq a k h hk)

  -- The public map at U equals the central map at the private change of U.
  pub composition : {terms v o : ℕ} {T : ℕ → ℕ → A} {q p U X : ℕ → A} {P F : ℕ → ℕ → ℕ → A} (L B : ℕ → A)
      → ((j k : ℕ) → j < v → k < o → tr (T j k) ≡ T j k)
      → ((α j k : ℕ) → α < terms → j < v → k < o → T j k ⊗ q α ≡ q α ⊗ T j k)
      → ((α j k : ℕ) → α < terms → j < v → k < o → T j k ⊗ p α ≡ p α ⊗ T j k)
      → ((α : ℕ) → α < terms → Keys 𝟘 ◌⊕◌ ◌⊗◌ tr v o T (P α) (F α)) → Change 𝟘 ◌⊕◌ ◌⊗◌ v o T U X
      → value 𝟘 ◌⊕◌ ◌⊗◌ tr terms (v + o) L q P p B U ≡ value 𝟘 ◌⊕◌ ◌⊗◌ tr terms (v + o) L q F p B X
  composition {terms} {q = q} {p = p} L B s cq cp K C =
      value-quad R _ _ _ _ _ _ _ _
      ∙ sum-cong R terms (λ α h. ap (λ x. L α ⊗ x ⊗ B α) (quad-composition (between-keys (q α) (p α) s (λ j k. cq α j k h) (λ j k. cp α j k h) (K α h)) C))
      ∙ sym (value-quad R _ _ _ _ _ _ _ _)
