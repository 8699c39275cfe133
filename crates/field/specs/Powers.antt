-- Powers in GF(16), and the inverse as the fourteenth: the square of the power at half the exponent, times the base where the exponent is odd.
-- Rests on Laws, and on one computed test: the fifteenth power of what is not 0 is 1.
use Rattle.std.specs.Prelude.{◌≡◌, refl, true, ℕ, zero, suc, ◌+◌, ◌/◌, ◌%◌, ◌<◌, eqb}
use Rattle.std.proofs.Common.{sym, ap, ◌∙◌, zero-add as zero-plus, suc-add as suc-plus, arith, ne_eqb, eqb→eq}
use Rattle.std.proofs.Math.Decide.{ℕ_discrete}
use Rattle.ground.specs.Pick.{pick}
use Rattle.ground.specs.Tests.{below}
use Rattle.field.specs.Field.{mul, inverse, power}
use Rattle.field.specs.Checked.{fifteen-test}
use Rattle.field.specs.Laws.{mul_assoc, mul_comm, one-mul, mul-one, mul-lt, mul_mod_left, zero-mul, inverse-zero, inverse-mod, inverse-lt, mul-inverse}

pub power-none : (a : ℕ) {k : ℕ} → k ≡ 0 → 1 ≡ power a k
unfolding power
power-none a e = rw e

-- a power is an element, whatever the base
pub power-lt : (a k : ℕ) → power a k < 16
unfolding power
power-lt a zero = omega arith
power-lt a (suc k) = mul-lt a (power a k)

pub power-mod : (a k : ℕ) → power (a % 16) k ≡ power a k
unfolding power
power-mod a zero = refl
power-mod a (suc k) = mul_mod_left a (power (a % 16) k) ∙ ap (mul a) (power-mod a k)

pub power-add : (a j k : ℕ) → power a (j + k) ≡ mul (power a j) (power a k)
unfolding power
power-add a zero k = rw (zero-plus k) (sym (one-mul (power a k) (power-lt a k)))
power-add a (suc j) k = rw (suc-plus j k) (ap (mul a) (power-add a j k) ∙ sym (mul_assoc a (power a j) (power a k)))

pub power-even : (a k : ℕ) → (k % 2 ≡ 1 → ⊥) → mul (power a (k / 2)) (power a (k / 2)) ≡ power a k
power-even a k h = let e : k / 2 + k / 2 ≡ k = omega arith in sym (power-add a (k / 2) (k / 2)) ∙ ap (power a) e

pub power-odd : (a k : ℕ) → k % 2 ≡ 1 → mul (mul (power a (k / 2)) (power a (k / 2))) a ≡ power a k
unfolding power
power-odd a k h =
    let e : suc (k / 2 + k / 2) ≡ k = omega arith in
    mul_comm _ a ∙ ap (mul a) (sym (power-add a (k / 2) (k / 2))) ∙ ap (power a) e

-- ---- the fourteenth power is the inverse

fifteenth : (x : ℕ) → x < 16 → (x ≡ 0 → ⊥) → power x 15 ≡ 1
fifteenth x h n = eqb→eq _ _ (rw (ne_eqb x 0 n) at (below 16 (λ y. pick (eqb y 0) true (eqb (power y 15) 1)) fifteen-test x h))

pub fourteenth : (a : ℕ) → (a % 16 ≡ 0 → ⊥) → mul a (power a 14) ≡ 1
unfolding power
fourteenth a n = sym (power-mod a 15) ∙ fifteenth (a % 16) (omega arith) n

-- 0 to a power that is not the zeroth
power_zero : (k : ℕ) → power 0 (suc k) ≡ 0
unfolding power
power_zero k = zero-mul (power 0 k)

-- what a takes to 1 is one element: inverse a = inverse a · (a · a¹⁴) = (inverse a · a) · a¹⁴ = a¹⁴
inverse-below : (x : ℕ) → x < 16 → inverse x ≡ power x 14
inverse-below x h = by (ℕ_discrete x 0)
  where
    by : Dec (x ≡ 0) → inverse x ≡ power x 14
    by (yes z) = ap inverse z ∙ inverse-zero ∙ sym (power_zero 13) ∙ ap (λ y. power y 14) (sym z)
    by (no n) =
        sym (mul-one (inverse x) (inverse-lt x h))
        ∙ ap (mul (inverse x)) (sym (fourteenth x (λ z. n (omega arith))))
        ∙ sym (mul_assoc (inverse x) x (power x 14))
        ∙ ap (λ y. mul y (power x 14)) (mul_comm (inverse x) x ∙ mul-inverse x h n)
        ∙ one-mul (power x 14) (power-lt x 14)

pub inverse-is-fourteenth : (a : ℕ) → inverse a ≡ power a 14
inverse-is-fourteenth a = sym (inverse-mod a) ∙ inverse-below (a % 16) (omega arith) ∙ power-mod a 14
