-- The powers of one symmetric element s, and polynomials in it: they commute with each other and are symmetric.
-- At the matrix S of page 01 the polynomials are F16[S]. Rests on Ring and Sum.
use Rattle.std.specs.Prelude.{◌≡◌}
use Rattle.std.proofs.Math.Path.{refl, sym}
use Rattle.std.proofs.Common.{ap, ◌∙◌, zero-add as zero-plus, add_comm as plus_comm, suc-add as suc-plus}
use Prim.Native.Nat.{ℕ, zero, suc, ◌+◌}
use Rattle.algebra.specs.Ring.{Ring, Scaled}
use Rattle.algebra.specs.Sum.{sum, sum-commutes, tr-sum}

module _ {A : Type 0} (◌⊗◌ : A → A → A) (tr : A → A) (e s : A) where
  infixr 70 ◌⊗◌
  -- s, and e which acts on s and on itself as one does.
  pub record Base : Type 0 where
    pub one-one : e ⊗ e ≡ e
    pub one-mul : e ⊗ s ≡ s
    pub mul-one : s ⊗ e ≡ s
    pub tr-one : tr e ≡ e
    pub tr-base : tr s ≡ s

unfoldable pub power : {A : Type 0} (◌⊗◌ : A → A → A) (e s : A) → ℕ → A
power ◌⊗◌ e s zero = e
power ◌⊗◌ e s (suc k) = ◌⊗◌ s (power ◌⊗◌ e s k)

-- c 0 · e + c 1 · s + .. + c (n - 1) · sⁿ⁻¹
unfoldable pub polynomial : {A : Type 0} (𝟘 : A) (◌⊕◌ ◌⊗◌ : A → A → A) (scale : ℕ → A → A) (e s : A) → ℕ → (ℕ → ℕ) → A
polynomial 𝟘 ◌⊕◌ ◌⊗◌ scale e s n c = sum 𝟘 ◌⊕◌ n (λ k. scale (c k) (power ◌⊗◌ e s k))

module _ {A : Type 0} {𝟘 : A} {◌⊕◌ ◌⊗◌ : A → A → A} {tr : A → A} (R : Ring 𝟘 ◌⊕◌ ◌⊗◌ tr) {e s : A} (S : Base ◌⊗◌ tr e s) where
  infixr 70 ◌⊗◌
  one_power : (k : ℕ) → e ⊗ power ◌⊗◌ e s k ≡ power ◌⊗◌ e s k
  unfolding power
  one_power zero = S.one-one
  one_power (suc k) = sym (R.mul_assoc e s _) ∙ rw S.one-mul refl

  power-add : (j k : ℕ) → power ◌⊗◌ e s j ⊗ power ◌⊗◌ e s k ≡ power ◌⊗◌ e s (j + k)
  unfolding power
  power-add zero k = rw (zero-plus k) (one_power k)
  power-add (suc j) k = rw (suc-plus j k, R.mul_assoc) (ap (λ x. s ⊗ x) (power-add j k))

  power-comm : (j k : ℕ) → power ◌⊗◌ e s j ⊗ power ◌⊗◌ e s k ≡ power ◌⊗◌ e s k ⊗ power ◌⊗◌ e s j
  power-comm j k = power-add j k ∙ rw (plus_comm j k) (sym (power-add k j))

  pub power-one : power ◌⊗◌ e s 1 ≡ s
  unfolding power
  power-one = S.mul-one

  pub power-tr : (k : ℕ) → tr (power ◌⊗◌ e s k) ≡ power ◌⊗◌ e s k
  unfolding power
  power-tr zero = S.tr-one
  power-tr (suc k) = R.tr-mul s _ ∙ rw (power-tr k, S.tr-base) (rw power-one at (power-comm k 1))

  module _ {scale : ℕ → A → A} (C : Scaled ◌⊕◌ ◌⊗◌ tr scale) where
    pub polynomial-tr : (n : ℕ) (c : ℕ → ℕ)
        → tr (polynomial 𝟘 ◌⊕◌ ◌⊗◌ scale e s n c) ≡ polynomial 𝟘 ◌⊕◌ ◌⊗◌ scale e s n c
    unfolding polynomial
    polynomial-tr n c = simp (tr-sum R, C.tr-scale, power-tr)

    pub polynomial-comm : (n m : ℕ) (c d : ℕ → ℕ)
        → polynomial 𝟘 ◌⊕◌ ◌⊗◌ scale e s n c ⊗ polynomial 𝟘 ◌⊕◌ ◌⊗◌ scale e s m d
        ≡ polynomial 𝟘 ◌⊕◌ ◌⊗◌ scale e s m d ⊗ polynomial 𝟘 ◌⊕◌ ◌⊗◌ scale e s n c
    unfolding polynomial
    polynomial-comm n m c d =
        sum-commutes R _ m (λ k h. sym (sum-commutes R _ n (λ j l. simp (C.scale-mul, C.mul-scale, C.scale-scale, power-comm))))
