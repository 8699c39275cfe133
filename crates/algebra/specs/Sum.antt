-- Finite sums, and how they go with products, transposes, scalars and ranges of indices.
-- Rests on the laws of Ring; the numbers' digits are lib.Arith's.
use Rattle.std.specs.Prelude.{◌≡◌, ◌≢◌}
use Rattle.std.proofs.Math.Path.{refl, sym, ap, ap₂}
use Rattle.std.proofs.Common.{◌∙◌, add-suc, suc-mul, add-zero as plus-zero, zero-mul as zero-times, add-one, arith}
use Prim.Native.Nat.{ℕ, zero, suc, ◌+◌, ◌-◌, ◌*◌, ◌/◌, ◌%◌, ◌<◌}
use Rattle.std.proofs.Math.Decide.{dec_lt}
use Rattle.std.proofs.Math.Arith.{digits_div, digits_mod}
use Rattle.algebra.specs.Ring.{Ring, Scaled, zero-add, add_left_comm, additive-zero}

-- f 0 ⊕ f 1 ⊕ .. ⊕ f (n - 1)
unfoldable pub sum : {A : Type 0} (𝟘 : A) (◌⊕◌ : A → A → A) → ℕ → (ℕ → A) → A
sum 𝟘 ◌⊕◌ zero f = 𝟘
sum 𝟘 ◌⊕◌ (suc n) f = ◌⊕◌ (sum 𝟘 ◌⊕◌ n f) (f n)

module _ {A : Type 0} {𝟘 : A} {◌⊕◌ ◌⊗◌ : A → A → A} {tr : A → A} (R : Ring 𝟘 ◌⊕◌ ◌⊗◌ tr) where
  infixl 60 ◌⊕◌
  infixr 70 ◌⊗◌
  pub sum-none : (f : ℕ → A) → sum 𝟘 ◌⊕◌ 0 f ≡ 𝟘
  unfolding sum
  sum-none f = refl

  pub sum-suc : (n : ℕ) (f : ℕ → A) → sum 𝟘 ◌⊕◌ (suc n) f ≡ sum 𝟘 ◌⊕◌ n f ⊕ f n
  unfolding sum
  sum-suc n f = refl

  pub sum_more : (n : ℕ) (f : ℕ → A) → sum 𝟘 ◌⊕◌ (n + 1) f ≡ sum 𝟘 ◌⊕◌ n f ⊕ f n
  sum_more n f = rw (add-one n) (sum-suc n f)

  -- A sum reads the terms below n only.
  pub sum-cong : (n : ℕ) {f g : ℕ → A} → ((k : ℕ) → k < n → f k ≡ g k) → sum 𝟘 ◌⊕◌ n f ≡ sum 𝟘 ◌⊕◌ n g
  unfolding sum
  sum-cong zero e = refl
  sum-cong (suc n) e = ap₂ ◌⊕◌ (sum-cong n (λ k h. e k (omega arith))) (e n (omega arith))

  -- What keeps sums of two keeps every sum; the two rings may differ.
  pub sum-map : {B : Type 0} {𝟎 : B} {◌⊞◌ ◌⊠◌ : B → B → B} {t : B → B} → Ring 𝟎 ◌⊞◌ ◌⊠◌ t
      → (h : A → B) → ((a b : A) → h (a ⊕ b) ≡ ◌⊞◌ (h a) (h b))
      → (n : ℕ) (f : ℕ → A) → h (sum 𝟘 ◌⊕◌ n f) ≡ sum 𝟎 ◌⊞◌ n (λ k. h (f k))
  unfolding sum
  sum-map S h e zero f = additive-zero R S h e
  sum-map {◌⊞◌ = ◌⊞◌} S h e (suc n) f = e _ (f n) ∙ ap (λ x. ◌⊞◌ x (h (f n))) (sum-map S h e n f)

  pub sum_zeros : (n : ℕ) {f : ℕ → A} → ((k : ℕ) → k < n → f k ≡ 𝟘) → sum 𝟘 ◌⊕◌ n f ≡ 𝟘
  unfolding sum
  sum_zeros zero e = refl
  sum_zeros (suc n) e = ap₂ ◌⊕◌ (sum_zeros n (λ k h. e k (omega arith))) (e n (omega arith)) ∙ R.add-zero 𝟘

  pub sum-add : (n : ℕ) (f g : ℕ → A) → sum 𝟘 ◌⊕◌ n (λ k. f k ⊕ g k) ≡ sum 𝟘 ◌⊕◌ n f ⊕ sum 𝟘 ◌⊕◌ n g
  unfolding sum
  sum-add zero f g = sym (R.add-zero 𝟘)
  sum-add (suc n) f g = rw (sum-add n f g) (simp (R.add_assoc, add_left_comm R))

  pub mul-sum : (a : A) (n : ℕ) (f : ℕ → A) → a ⊗ sum 𝟘 ◌⊕◌ n f ≡ sum 𝟘 ◌⊕◌ n (λ k. a ⊗ f k)
  mul-sum a = sum-map R (λ x. a ⊗ x) (R.mul-add a)

  pub sum-mul : (a : A) (n : ℕ) (f : ℕ → A) → sum 𝟘 ◌⊕◌ n f ⊗ a ≡ sum 𝟘 ◌⊕◌ n (λ k. f k ⊗ a)
  sum-mul a = sum-map R (λ x. x ⊗ a) (λ x y. R.add-mul x y a)

  -- What commutes with each term commutes with the sum.
  pub sum-commutes : (a : A) (n : ℕ) {f : ℕ → A} → ((k : ℕ) → k < n → a ⊗ f k ≡ f k ⊗ a)
      → a ⊗ sum 𝟘 ◌⊕◌ n f ≡ sum 𝟘 ◌⊕◌ n f ⊗ a
  sum-commutes a n {f} e = mul-sum a n f ∙ sum-cong n e ∙ sym (sum-mul a n f)

  pub tr-sum : (n : ℕ) (f : ℕ → A) → tr (sum 𝟘 ◌⊕◌ n f) ≡ sum 𝟘 ◌⊕◌ n (λ k. tr (f k))
  tr-sum = sum-map R tr R.tr-add

  pub scale-sum : {scale : ℕ → A → A} → Scaled ◌⊕◌ ◌⊗◌ tr scale
      → (c n : ℕ) (f : ℕ → A) → scale c (sum 𝟘 ◌⊕◌ n f) ≡ sum 𝟘 ◌⊕◌ n (λ k. scale c (f k))
  scale-sum {scale} C c = sum-map R (scale c) (C.scale-add c)

  pub sum-swap : (n m : ℕ) (f : ℕ → ℕ → A)
      → sum 𝟘 ◌⊕◌ n (λ j. sum 𝟘 ◌⊕◌ m (λ k. f j k)) ≡ sum 𝟘 ◌⊕◌ m (λ k. sum 𝟘 ◌⊕◌ n (λ j. f j k))
  unfolding sum
  sum-swap zero m f = sym (sum_zeros m (λ k h. refl))
  sum-swap (suc n) m f = rw (sum-swap n m f) (sym (sum-add m (λ k. sum 𝟘 ◌⊕◌ n (λ j. f j k)) (f n)))

  pub sum-split : (v o : ℕ) (f : ℕ → A) → sum 𝟘 ◌⊕◌ (v + o) f ≡ sum 𝟘 ◌⊕◌ v f ⊕ sum 𝟘 ◌⊕◌ o (λ k. f (v + k))
  unfolding sum
  sum-split v zero f = rw (plus-zero v) (sym (R.add-zero _))
  sum-split v (suc o) f = rw (add-suc v o, sum-split v o f) (R.add_assoc _ _ _)

  -- The term at i, what stands before it and what stands after.
  sum-around : (n i : ℕ) (f : ℕ → A) → i < n
      → sum 𝟘 ◌⊕◌ n f ≡ sum 𝟘 ◌⊕◌ i f ⊕ f i ⊕ sum 𝟘 ◌⊕◌ (n - (i + 1)) (λ k. f (i + 1 + k))
  sum-around n i f h =
      let e : n ≡ i + 1 + (n - (i + 1)) = omega arith in
      ap (λ x. sum 𝟘 ◌⊕◌ x f) e ∙ sum-split (i + 1) (n - (i + 1)) f ∙ rw (sum_more i f) refl

  -- Only the term at i is not zero.
  pub sum_one : (n i : ℕ) (f : ℕ → A) → i < n → ((k : ℕ) → k < n → k ≢ i → f k ≡ 𝟘) → sum 𝟘 ◌⊕◌ n f ≡ f i
  sum_one n i f h e =
      let before : sum 𝟘 ◌⊕◌ i f ≡ 𝟘 = sum_zeros i (λ k l. e k (omega arith) (omega arith)) in
      let after : sum 𝟘 ◌⊕◌ (n - (i + 1)) (λ k. f (i + 1 + k)) ≡ 𝟘 = sum_zeros _ (λ k l. e (i + 1 + k) (omega arith) (omega arith)) in
      sum-around n i f h ∙ rw (before, after) (R.add-zero _ ∙ zero-add R (f i))

  -- Only the terms at i and j are not zero.
  pub sum-two : (n i j : ℕ) (f : ℕ → A) → i < n → j < n → i ≢ j
      → ((k : ℕ) → k < n → k ≢ i → k ≢ j → f k ≡ 𝟘) → sum 𝟘 ◌⊕◌ n f ≡ f i ⊕ f j
  sum-two n i j f hi hj d e = elim (dec_lt i j) [ yes l ↦ ordered i j hj l e | no l ↦ ordered j i hi (omega arith) (λ k h p q. e k h q p) ∙ R.add_comm _ _ ]
    where
      ordered : (i j : ℕ) → j < n → i < j → ((k : ℕ) → k < n → k ≢ i → k ≢ j → f k ≡ 𝟘) → sum 𝟘 ◌⊕◌ n f ≡ f i ⊕ f j
      ordered i j h l e =
          let before : sum 𝟘 ◌⊕◌ j f ≡ f i = sum_one j i f l (λ k m d. e k (omega arith) d (omega arith)) in
          let after : sum 𝟘 ◌⊕◌ (n - (j + 1)) (λ k. f (j + 1 + k)) ≡ 𝟘 = sum_zeros _ (λ k m. e (j + 1 + k) (omega arith) (omega arith) (omega arith)) in
          sum-around n j f h ∙ rw (before, after) (R.add-zero _)

  -- Two indices as one number: j and k are its digits to the base b.
  pub sum-pairs : (a b : ℕ) (f : ℕ → ℕ → A) → 0 < b
      → sum 𝟘 ◌⊕◌ a (λ j. sum 𝟘 ◌⊕◌ b (λ k. f j k)) ≡ sum 𝟘 ◌⊕◌ (a * b) (λ e. f (e / b) (e % b))
  unfolding sum
  sum-pairs zero b f h = rw (zero-times b) refl
  sum-pairs (suc a) b f h =
      let row : sum 𝟘 ◌⊕◌ b (λ k. f ((a * b + k) / b) ((a * b + k) % b)) ≡ sum 𝟘 ◌⊕◌ b (λ k. f a k) = sum-cong b (λ k l. ap₂ f (digits_div a l) (digits_mod a l)) in
      rw (suc-mul a b, sum-split (a * b) b (λ e. f (e / b) (e % b)), sum-pairs a b f h, row) refl

  pub double-add : (n m : ℕ) (f g : ℕ → ℕ → A)
      → sum 𝟘 ◌⊕◌ n (λ j. sum 𝟘 ◌⊕◌ m (λ k. f j k ⊕ g j k))
      ≡ sum 𝟘 ◌⊕◌ n (λ j. sum 𝟘 ◌⊕◌ m (λ k. f j k)) ⊕ sum 𝟘 ◌⊕◌ n (λ j. sum 𝟘 ◌⊕◌ m (λ k. g j k))
  double-add n m f g = sum-cong n (λ j h. sum-add m (f j) (g j)) ∙ sum-add n _ _

  -- The four blocks of a square that is cut at v both ways.
  pub double-split : (v o : ℕ) (f : ℕ → ℕ → A)
      → sum 𝟘 ◌⊕◌ (v + o) (λ j. sum 𝟘 ◌⊕◌ (v + o) (λ k. f j k))
      ≡ sum 𝟘 ◌⊕◌ v (λ j. sum 𝟘 ◌⊕◌ v (λ k. f j k)) ⊕ sum 𝟘 ◌⊕◌ v (λ j. sum 𝟘 ◌⊕◌ o (λ k. f j (v + k)))
      ⊕ (sum 𝟘 ◌⊕◌ o (λ j. sum 𝟘 ◌⊕◌ v (λ k. f (v + j) k)) ⊕ sum 𝟘 ◌⊕◌ o (λ j. sum 𝟘 ◌⊕◌ o (λ k. f (v + j) (v + k))))
  double-split v o f =
      sum-split v o _ ∙ ap₂ ◌⊕◌ (sum-cong v (λ j h. sum-split v o (f j)) ∙ sum-add v _ _) (sum-cong o (λ j h. sum-split v o (f (v + j))) ∙ sum-add o _ _)

  -- Two double sums, one inside the other, change places.
  pub double-swap : (n m r s : ℕ) (f : ℕ → ℕ → ℕ → ℕ → A)
      → sum 𝟘 ◌⊕◌ n (λ j. sum 𝟘 ◌⊕◌ m (λ k. sum 𝟘 ◌⊕◌ r (λ x. sum 𝟘 ◌⊕◌ s (λ y. f j k x y))))
      ≡ sum 𝟘 ◌⊕◌ r (λ x. sum 𝟘 ◌⊕◌ s (λ y. sum 𝟘 ◌⊕◌ n (λ j. sum 𝟘 ◌⊕◌ m (λ k. f j k x y))))
  double-swap n m r s f =
      sum-cong n (λ j h. sum-swap m r _ ∙ sum-cong r (λ x l. sum-swap m s _)) ∙ sum-swap n r _ ∙ sum-cong r (λ x l. sum-swap n s _)

  -- The sum over a, b of x(a)·m(a, b)·t(b), beside two others, is taken from the right or from the left: the two ways to make P22.
  pub sum-either-way : (v : ℕ) (x p q t : ℕ → A) (m : ℕ → ℕ → A)
      → sum 𝟘 ◌⊕◌ v (λ a. x a ⊗ (p a ⊕ sum 𝟘 ◌⊕◌ v (λ b. m a b ⊗ t b))) ⊕ sum 𝟘 ◌⊕◌ v (λ b. q b ⊗ t b)
      ≡ sum 𝟘 ◌⊕◌ v (λ a. x a ⊗ p a) ⊕ sum 𝟘 ◌⊕◌ v (λ b. (q b ⊕ sum 𝟘 ◌⊕◌ v (λ a. x a ⊗ m a b)) ⊗ t b)
  sum-either-way v x p q t m =
      let left : ℕ → A = λ a. sum 𝟘 ◌⊕◌ v (λ b. x a ⊗ m a b ⊗ t b) in
      let right : ℕ → A = λ b. sum 𝟘 ◌⊕◌ v (λ a. x a ⊗ m a b ⊗ t b) in
      simp (R.mul-add, R.add-mul, mul-sum, sum-mul, R.mul_assoc)
      (rw (sum-add v (λ a. x a ⊗ p a) left, sum-add v (λ b. q b ⊗ t b) right, sum-swap v v (λ a b. x a ⊗ m a b ⊗ t b))
      (simp (R.add_assoc, R.add_comm)))
