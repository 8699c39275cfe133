-- One step more of what the code's loops form: a sum of products, a power of S, Algorithm 1's sum, a determinant's first column.
-- Rests on the definitions and on algebra's sums.
use Rattle.std.specs.Prelude.{◌≡◌, refl, ℕ, zero, suc, ◌+◌, ◌-◌, ◌<◌, eqb}
use Rattle.std.proofs.Common.{sym, ap, ap₂, ◌∙◌, not-suc-le-zero, mod-eq_of_lt, add-one, sub-one}
use Rattle.ground.specs.Pick.{pick}
use Rattle.algebra.specs.Sum.{sum, sum-none, sum_more}
use Rattle.algebra.specs.Powers.{power, polynomial}
use Rattle.field.specs.Field.{add, mul}
use Rattle.field.specs.Laws.{zero-add, mul_assoc, mul-one, mul-lt}
use Rattle.field.specs.FieldRing.{field-ring}
use Rattle.matrix.specs.Matrix.{Matrix, zero_m, add_m, mul_m, scale_m}
use Rattle.matrix.specs.MatrixRing.{matrices}
use Rattle.matrix.specs.RingElements.{one_m, S, power_s}
use Rattle.matrix.specs.Determinant.{det, minor, skip}

-- inside l the remainders are the indices themselves
pub S-inside : (l r c : ℕ) → r < l → c < l → S l r c ≡ 8 - r - c
unfolding S
S-inside l r c hr hc = rw (mod-eq_of_lt hr, mod-eq_of_lt hc)

pub one_inside : (l r c : ℕ) → r < l → c < l → one_m l r c ≡ pick (eqb r c) 1 0
unfolding one_m
one_inside l r c hr hc = rw (mod-eq_of_lt hr, mod-eq_of_lt hc)

-- S to the k
pub power_s-none : (l : ℕ) → power_s l 0 ≡ one_m l
unfolding power
power_s-none l = refl

pub power_s-more : (l k : ℕ) → power_s l (k + 1) ≡ mul_m l (S l) (power_s l k)
unfolding power
power_s-more l k = rw (add-one k) refl

-- the first k terms of Algorithm 1's sum
unfoldable pub terms : ℕ → (ℕ → ℕ) → ℕ → Matrix
terms l c k = polynomial zero_m add_m (mul_m l) scale_m (one_m l) (S l) k c

pub terms-none : (l : ℕ) (c : ℕ → ℕ) → terms l c 0 ≡ zero_m
unfolding terms polynomial
terms-none l c = sum-none (matrices l) _

pub terms-more : (l : ℕ) (c : ℕ → ℕ) (k : ℕ) → terms l c (k + 1) ≡ add_m (terms l c k) (scale_m (c k) (power_s l k))
unfolding terms polynomial
terms-more l c k = sum_more (matrices l) k _

-- the first k terms of the sum over the first column, of an n by n matrix
unfoldable pub column : ℕ → Matrix → ℕ → ℕ
column n M k = sum 0 add k (λ r. mul (M r 0) (det (n - 1) (minor M r)))

pub column-none : (n : ℕ) (M : Matrix) → column n M 0 ≡ 0
unfolding column
column-none n M = sum-none field-ring _

pub column-more : (n : ℕ) (M : Matrix) (k : ℕ) → column n M (k + 1) ≡ add (column n M k) (mul (M k 0) (det (n - 1) (minor M k)))
unfolding column
column-more n M k = sum_more field-ring k _

-- the determinant of the empty matrix
pub det-none : {n : ℕ} (M : Matrix) → n ≡ 0 → det n M ≡ 1
unfolding det
det-none M e = rw e

pub det-one : {n : ℕ} (M : Matrix) → n ≡ 1 → det n M ≡ mul (M 0 0) 1
unfolding det sum
det-one M e = rw e (zero-add (mul (M 0 0) 1))

pub det-two : {n : ℕ} (M : Matrix) → n ≡ 2 → det n M ≡ add (mul (M 0 0) (M 1 1)) (mul (M 1 0) (M 0 1))
unfolding det minor skip sum
det-two M e = rw e (ap₂ add (zero-add _ ∙ ap (mul (M 0 0)) (zero-add _) ∙ by_one (M 0 0) (M 1 1)) (ap (mul (M 1 0)) (zero-add _) ∙ by_one (M 1 0) (M 0 1)))
  where
    by_one : (a b : ℕ) → mul a (mul b 1) ≡ mul a b
    by_one a b = sym (mul_assoc a b 1) ∙ mul-one (mul a b) (mul-lt a b)

-- the whole column gives the determinant
pub column-all : (n : ℕ) (M : Matrix) → 0 < n → column n M n ≡ det n M
unfolding column det
column-all zero M h = absurd (not-suc-le-zero h)
column-all (suc n) M h = let e : suc n - 1 ≡ n = sub-one (suc n) in ap (λ m. sum 0 add (suc n) (λ r. mul (M r 0) (det m (minor M r)))) e
