-- Two matrices with the same entries inside l, and what keeps that: sums, products, transposes, scalars, finite sums.
-- Rests on Matrix.
use Rattle.std.specs.Prelude.{◌≡◌, refl, ℕ, zero, suc, ◌<◌}
use Rattle.std.proofs.Common.{sym, ap, ap₂, ◌∙◌}
use Rattle.algebra.specs.Sum.{sum, sum-cong}
use Rattle.field.specs.Field.{add, mul}
use Rattle.field.specs.Laws.{mul-lt}
use Rattle.field.specs.FieldRing.{field-ring, sum_lt}
use Rattle.matrix.specs.Matrix.{Matrix, zero_m, add_m, mul_m, transpose, scale_m}

-- the entries inside l agree
pub record Same (l : ℕ) (M N : Matrix) : Type 0 where
  pub at : (r c : ℕ) → r < l → c < l → M r c ≡ N r c

pub same_refl : {l : ℕ} {M : Matrix} → Same l M M
same_refl = record { at = λ r c hr hc. refl }

pub same-sym : {l : ℕ} {M N : Matrix} → Same l M N → Same l N M
same-sym s = record { at = λ r c hr hc. sym (s.at r c hr hc) }

pub same-trans : {l : ℕ} {M N K : Matrix} → Same l M N → Same l N K → Same l M K
same-trans s t = record { at = λ r c hr hc. s.at r c hr hc ∙ t.at r c hr hc }

pub same-equal : {l : ℕ} {M N : Matrix} → M ≡ N → Same l M N
same-equal e = record { at = λ r c hr hc. ap (λ M. M r c) e }

pub same_add : {l : ℕ} {M M' N N' : Matrix} → Same l M M' → Same l N N' → Same l (add_m M N) (add_m M' N')
unfolding add_m
same_add s t = record { at = λ r c hr hc. ap₂ add (s.at r c hr hc) (t.at r c hr hc) }

pub same-mul : {l : ℕ} {M M' N N' : Matrix} → Same l M M' → Same l N N' → Same l (mul_m l M N) (mul_m l M' N')
unfolding mul_m
same-mul {l} s t = record { at = λ r c hr hc. sum-cong field-ring l (λ k hk. ap₂ mul (s.at r k hr hk) (t.at k c hk hc)) }

pub same-transpose : {l : ℕ} {M N : Matrix} → Same l M N → Same l (transpose M) (transpose N)
unfolding transpose
same-transpose s = record { at = λ r c hr hc. s.at c r hc hr }

pub same_scale : {l : ℕ} {M N : Matrix} (a : ℕ) → Same l M N → Same l (scale_m a M) (scale_m a N)
unfolding scale_m
same_scale a s = record { at = λ r c hr hc. ap (mul a) (s.at r c hr hc) }

-- the entry of a finite sum of matrices is the sum of the entries
pub sum-entry : (n : ℕ) (f : ℕ → Matrix) (r c : ℕ) → sum zero_m add_m n f r c ≡ sum 0 add n (λ k. f k r c)
unfolding sum add_m
sum-entry zero f r c = refl
sum-entry (suc n) f r c = ap (λ x. add x (f n r c)) (sum-entry n f r c)

pub same_sum : {l : ℕ} (n : ℕ) {f g : ℕ → Matrix} → ((k : ℕ) → k < n → Same l (f k) (g k)) → Same l (sum zero_m add_m n f) (sum zero_m add_m n g)
same_sum n {f} {g} s =
    record { at = λ r c hr hc. sum-entry n f r c ∙ sum-cong field-ring n (λ k h. (s k h).at r c hr hc) ∙ sym (sum-entry n g r c) }

-- entries of products, and of sums of elements, are elements
pub mul_m-lt : (l : ℕ) (M N : Matrix) (r c : ℕ) → mul_m l M N r c < 16
unfolding mul_m
mul_m-lt l M N r c = sum_lt l (λ k h. mul-lt (M r k) (N k c))

pub sum_m-lt : (n : ℕ) (f : ℕ → Matrix) (r c : ℕ) → ((k : ℕ) → k < n → f k r c < 16) → sum zero_m add_m n f r c < 16
sum_m-lt n f r c h = rw (sum-entry n f r c) (sum_lt n h)
