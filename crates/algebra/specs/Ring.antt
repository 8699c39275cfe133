-- Rings of characteristic 2 with a transpose and no unit, and the scalars that act on them.
-- GF(16) is one (its transpose does nothing) and the l by l matrices over it are another. Rests on nothing.
use Rattle.std.specs.Prelude.{◌≡◌, ℕ}
use Rattle.std.proofs.Common.{sym, ap, ◌∙◌}

module _ {A : Type 0} (𝟘 : A) (◌⊕◌ ◌⊗◌ : A → A → A) (tr : A → A) where
  infixl 60 ◌⊕◌
  infixr 70 ◌⊗◌
  pub record Ring : Type 0 where
    pub add_assoc : (a b c : A) → (a ⊕ b) ⊕ c ≡ a ⊕ (b ⊕ c)
    pub add_comm : (a b : A) → a ⊕ b ≡ b ⊕ a
    pub add-zero : (a : A) → a ⊕ 𝟘 ≡ a
    pub add-self : (a : A) → a ⊕ a ≡ 𝟘
    pub mul_assoc : (a b c : A) → (a ⊗ b) ⊗ c ≡ a ⊗ (b ⊗ c)
    pub mul-add : (a b c : A) → a ⊗ (b ⊕ c) ≡ a ⊗ b ⊕ a ⊗ c
    pub add-mul : (a b c : A) → (a ⊕ b) ⊗ c ≡ a ⊗ c ⊕ b ⊗ c
    pub tr-add : (a b : A) → tr (a ⊕ b) ≡ tr a ⊕ tr b
    pub tr-mul : (a b : A) → tr (a ⊗ b) ≡ tr b ⊗ tr a
    pub tr-tr : (a : A) → tr (tr a) ≡ a

-- What multiplying by a scalar, a field element, has to do with the ring.
module _ {A : Type 0} (◌⊕◌ ◌⊗◌ : A → A → A) (tr : A → A) (scale : ℕ → A → A) where
  infixl 60 ◌⊕◌
  infixr 70 ◌⊗◌
  pub record Scaled : Type 0 where
    pub scale-add : (c : ℕ) (a b : A) → scale c (a ⊕ b) ≡ scale c a ⊕ scale c b
    pub scale-mul : (c : ℕ) (a b : A) → scale c a ⊗ b ≡ scale c (a ⊗ b)
    pub mul-scale : (c : ℕ) (a b : A) → a ⊗ scale c b ≡ scale c (a ⊗ b)
    pub tr-scale : (c : ℕ) (a : A) → tr (scale c a) ≡ scale c (tr a)
    pub scale-scale : (c d : ℕ) (a : A) → scale c (scale d a) ≡ scale d (scale c a)

module _ {A : Type 0} {𝟘 : A} {◌⊕◌ ◌⊗◌ : A → A → A} {tr : A → A} (R : Ring 𝟘 ◌⊕◌ ◌⊗◌ tr) where
  infixl 60 ◌⊕◌
  infixr 70 ◌⊗◌
  pub zero-add : (a : A) → 𝟘 ⊕ a ≡ a
  zero-add a = R.add_comm 𝟘 a ∙ R.add-zero a

  pub add_left_comm : (a b c : A) → a ⊕ (b ⊕ c) ≡ b ⊕ (a ⊕ c)
  add_left_comm a b c = sym (R.add_assoc a b c) ∙ rw (R.add_comm a b) (R.add_assoc b a c)

  pub add-self-left : (a b : A) → a ⊕ (a ⊕ b) ≡ b
  add-self-left a b = sym (R.add_assoc a a b) ∙ rw (R.add-self a) (zero-add b)

  -- Plus is its own minus.
  add-move : {a b c : A} → a ⊕ b ≡ c → a ≡ c ⊕ b
  add-move {a} {b} e = rw (← e, R.add_assoc, R.add-self) (sym (R.add-zero a))

  pub add-move-left : {a b c : A} → a ⊕ b ≡ c → b ≡ a ⊕ c
  add-move-left {a} {b} e = rw (← e) (sym (add-self-left a b))

  pub add-cancel : {a b : A} → a ⊕ b ≡ 𝟘 → a ≡ b
  add-cancel {a} {b} e = add-move e ∙ zero-add b

  -- What keeps sums keeps zero; the two rings may differ.
  pub additive-zero : {B : Type 0} {𝟎 : B} {◌⊞◌ ◌⊠◌ : B → B → B} {t : B → B} → Ring 𝟎 ◌⊞◌ ◌⊠◌ t
      → (h : A → B) → ((a b : A) → h (a ⊕ b) ≡ ◌⊞◌ (h a) (h b)) → h 𝟘 ≡ 𝟎
  additive-zero S h e = ap h (sym (R.add-zero 𝟘)) ∙ e 𝟘 𝟘 ∙ S.add-self (h 𝟘)

  pub mul-zero : (a : A) → a ⊗ 𝟘 ≡ 𝟘
  mul-zero a = additive-zero R (λ x. a ⊗ x) (R.mul-add a)

  pub zero-mul : (a : A) → 𝟘 ⊗ a ≡ 𝟘
  zero-mul a = additive-zero R (λ x. x ⊗ a) (λ x y. R.add-mul x y a)

  pub tr-zero : tr 𝟘 ≡ 𝟘
  tr-zero = additive-zero R tr R.tr-add
