-- What one j adds to a table of power sums, row by row as the code adds it, and that every place of it lies within the tables.
-- Rests on rows' PlusRows and sums of rows.
use Rattle.std.specs.Prelude.{◌≡◌, List, ℕ, ◌+◌, ◌*◌, ◌<◌, ◌≤◌, get_or}
use Rattle.std.proofs.Common.{ap, ap₂, subst, mul-le-mul, mul-le-mul_left, mul-le-mul_right, arith}
use Rattle.std.proofs.Math.Decide.{dec_lt}
use Rattle.std.proofs.Math.Arith.{digits_lt}
use Rattle.ground.specs.Place.{row_fits}
use Rattle.algebra.specs.Sum.{sum-cong}
use Rattle.field.specs.Field.{mul}
use Rattle.field.specs.FieldRing.{field-ring}
use Rattle.rows.specs.Plus.{Plus, plus-cong}
use Rattle.rows.specs.PlusRows.{PlusRows, rows_none, rows_next}
use Rattle.rows.specs.Combine.{combination}
use Rattle.terms.specs.Terms.{power_gain}

-- ---- places

pub square-within : (l n : ℕ) → l * (l * l) ≤ n → l * l ≤ n
square-within l n h =
    elim (dec_lt 0 l) [
      | yes b ↦ omega (arith, mul-le-mul_right (l * l) b)
      | no b ↦ let none : l ≡ 0 = omega arith in omega (arith, ap (λ x. l * x) none)
    ]

pub start-within : (j l n : ℕ) → (j + 1) * l * (l * l) ≤ n → j * l ≤ n
start-within j l n h =
    elim (dec_lt 0 l) [
      | yes b ↦ let one : 1 * 1 ≤ l * l = mul-le-mul b b in omega (arith, mul-le-mul_left (j * l) one)
      | no b ↦ let none : l ≡ 0 = omega arith in omega (arith, ap (λ x. j * x) none)
    ]

-- row `row` of the l·l rows, and scalar x of its column
pub gain-row-within : (l row at n : ℕ) → row < l * l → at + l * l * (l * l) ≤ n → at + row * (l * l) + l * l ≤ n
gain-row-within l row at n h fits = omega (arith, row_fits (l * l) h)

pub scalar-within : (l j row x n : ℕ) → row < l * l → x < l → (j + 1) * l * (l * l) ≤ n → j * l * (l * l) + row + x * (l * l) < n
scalar-within l j row x n h hx fits = omega (arith, digits_lt hx h)

-- ---- the loop over the rows

gain-is : (l : ℕ) (w : List ℕ) (j : ℕ) (y : List ℕ) (row z : ℕ)
    → combination (λ a. get_or w (j * l * (l * l) + row + a * (l * l)) 0) y (l * l) 0 l z ≡ power_gain l w j y row z
gain-is l w j y row z =
    sum-cong field-ring l (λ a ha.
    let scalar : j * l * (l * l) + row + a * (l * l) ≡ (j * l + a) * (l * l) + row = omega arith in
    let place : (0 + a) * (l * l) + z ≡ a * (l * l) + z = omega arith in
    ap₂ (λ p q. mul (get_or w p 0) (get_or y q 0)) scalar place)

pub record Gaining (l : ℕ) (w : List ℕ) (j : ℕ) (y : List ℕ) (at : ℕ) (d : List ℕ) (row : ℕ) (t : List ℕ) : Type 0 where
  pub upto : row ≤ l * l
  pub so_far : PlusRows d at row (l * l) (power_gain l w j y) t

pub gaining-none : {l : ℕ} {w : List ℕ} {j : ℕ} {y : List ℕ} {at : ℕ} {d : List ℕ} → Gaining l w j y at d 0 d
gaining-none = record { upto = omega arith; so_far = rows_none }

pub gaining-next : {l : ℕ} {w : List ℕ} {j : ℕ} {y : List ℕ} {at : ℕ} {d t u : List ℕ} {row : ℕ} → Gaining l w j y at d row t → row < l * l
    → Plus t (at + row * (l * l)) (l * l) (combination (λ a. get_or w (j * l * (l * l) + row + a * (l * l)) 0) y (l * l) 0 l) u → Gaining l w j y at d (row + 1) u
gaining-next {l} {w} {j} {y} {at} {row = row} p h q = record {
  upto = omega arith;
  so_far = rows_next p.so_far (omega arith) (plus-cong (λ z hz. gain-is l w j y row z) q);
}

pub gaining-end : {l : ℕ} {w : List ℕ} {j : ℕ} {y : List ℕ} {at : ℕ} {d t : List ℕ} {row : ℕ} → Gaining l w j y at d row t → l * l ≤ row
    → PlusRows d at (l * l) (l * l) (power_gain l w j y) t
gaining-end {l} {w} {j} {y} {at} {d} {t} {row} p h = let all : row ≡ l * l = omega (arith, p.upto) in subst (λ k. PlusRows d at k (l * l) (power_gain l w j y) t) all p.so_far
