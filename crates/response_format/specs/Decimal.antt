-- The decimal text of a number: digits that read back as the number, and no zero in front.
-- Rests on Fields, Rules and Text.
use Rattle.std.specs.Prelude.{◌≡◌, refl, true, List, [], ◌∷◌, ℕ, zero, suc, ◌+◌, ◌*◌, ◌/◌, ◌%◌, ◌^◌, ◌<◌, ◌≤◌, length, get_or}
use Rattle.std.proofs.Common.{sym, ap, ◌∙◌, arith, pow-suc, eq-eqb, ne_eqb, lt-ltb, le-ltb}
use Rattle.std.proofs.Math.Decide.{ℕ_discrete}
use Rattle.ground.specs.Pick.{both_true}
use Rattle.response_format.specs.Fields.{digit_of, numeral}
use Rattle.response_format.specs.Rules.{all_digits}
use Rattle.response_format.specs.Text.{digits_before, decimal}

-- the last digit of n as a byte
abbrev unit : ℕ → ℕ
unit n = 48 + n % 10

unit-digit : (n : ℕ) → digit_of (unit n) ≡ n % 10
unfolding digit_of
unit-digit n = rw (le-ltb (unit n) 48 (omega arith), lt-ltb (unit n) 58 (omega arith)) (omega arith)

module _ (d n : ℕ) (t : List ℕ) where
  pub digits_last : n / 10 ≡ 0 → digits_before (suc d) n t ≡ unit n ∷ t
  unfolding digits_before
  digits_last z = rw (eq-eqb (n / 10) 0 z)

  pub digits_more : (n / 10 ≡ 0 → ⊥) → digits_before (suc d) n t ≡ digits_before d (n / 10) (unit n ∷ t)
  unfolding digits_before
  digits_more z = rw (ne_eqb (n / 10) 0 z)

pub digits-length : (d n : ℕ) (t : List ℕ) → length (digits_before d n t) ≤ d + length t
unfolding digits_before
digits-length zero n t = omega arith
digits-length (suc d) n t =
    elim (ℕ_discrete (n / 10) 0) [
      | yes z ↦ rw (digits_last d n t z) (omega arith)
      | no z ↦ let h = digits-length d (n / 10) (unit n ∷ t) in rw (digits_more d n t z) (omega arith)
    ]

-- one digit more of a number
numeral-unit : (n : ℕ) (t : List ℕ) → numeral (n / 10) (unit n ∷ t) ≡ numeral n t
unfolding numeral
numeral-unit n t = let whole : n / 10 * 10 + digit_of (unit n) ≡ n = omega (arith, unit-digit n) in ap (λ m. numeral m t) whole

pub digits-read : (d n : ℕ) (t : List ℕ) → n < 10 ^ d → numeral 0 (digits_before d n t) ≡ numeral n t
unfolding digits_before
digits-read zero n t h = let none : 0 ≡ n = omega arith in ap (λ m. numeral m t) none
digits-read (suc d) n t h =
    elim (ℕ_discrete (n / 10) 0) [
      | yes z ↦ rw (digits_last d n t z) (ap (λ m. numeral m (unit n ∷ t)) (sym z) ∙ numeral-unit n t)
      | no z ↦ rw (digits_more d n t z) (digits-read d (n / 10) (unit n ∷ t) (omega (arith, h, pow-suc 10 d)) ∙ numeral-unit n t)
    ]

unit-all : (n : ℕ) (t : List ℕ) → all_digits 10 t ≡ true → all_digits 10 (unit n ∷ t) ≡ true
unfolding all_digits
unit-all n t a = both_true (lt-ltb (digit_of (unit n)) 10 (omega (arith, unit-digit n))) a

pub digits-all : (d n : ℕ) (t : List ℕ) → all_digits 10 t ≡ true → all_digits 10 (digits_before d n t) ≡ true
unfolding digits_before
digits-all zero n t a = a
digits-all (suc d) n t a =
    elim (ℕ_discrete (n / 10) 0) [
      | yes z ↦ rw (digits_last d n t z) (unit-all n t a)
      | no z ↦ rw (digits_more d n t z) (digits-all d (n / 10) (unit n ∷ t) (unit-all n t a))
    ]

pub digits-first : (d n : ℕ) (t : List ℕ) → n < 10 ^ d → 0 < n → 48 < get_or (digits_before d n t) 0 0
unfolding digits_before
digits-first zero n t h p = absurd (omega arith)
digits-first (suc d) n t h p =
    elim (ℕ_discrete (n / 10) 0) [
      | yes z ↦ rw (digits_last d n t z) (omega arith)
      | no z ↦ rw (digits_more d n t z) (digits-first d (n / 10) (unit n ∷ t) (omega (arith, h, pow-suc 10 d)) (omega arith))
    ]

-- the text of a number of 64 bits: digits alone, they read as the number, and the first is 0 only in "0"
pub record Spells (n : ℕ) (t : List ℕ) : Type 0 where
  pub digits : all_digits 10 t ≡ true
  pub reads : numeral 0 t ≡ n
  pub shortest : 0 < n → 48 < get_or t 0 0

pub decimal-spells : (n : ℕ) → n < 2 ^ 64 → Spells n (decimal n [])
unfolding numeral all_digits
decimal-spells n h =
    let small : n < 10 ^ 20 = omega (arith, h) in
    record {
      digits = digits-all 20 n [] refl;
      reads = digits-read 20 n [] small;
      shortest = digits-first 20 n [] small;
    }
