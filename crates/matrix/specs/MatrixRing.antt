-- The l by l matrices are a ring of characteristic 2 with a transpose, for every l: its laws are equations of functions.
-- Rests on the field's laws and on algebra's sums.
use Rattle.std.specs.Prelude.{◌≡◌, refl, ℕ}
use Rattle.std.proofs.Common.{sym, ◌∙◌}
use Rattle.std.proofs.Math.Path.{fun_ext}
use Rattle.algebra.specs.Ring.{Ring, Scaled}
use Rattle.algebra.specs.Sum.{sum-cong, sum-add, mul-sum, sum-mul, sum-swap}
use Rattle.field.specs.Laws as F
use Rattle.field.specs.FieldRing.{field-ring}
use Rattle.matrix.specs.Matrix.{Matrix, zero_m, add_m, mul_m, transpose, scale_m}

-- two matrices with the same entries everywhere are equal
pub entries : {M N : Matrix} → ((r c : ℕ) → M r c ≡ N r c) → M ≡ N
entries e = fun_ext (λ r. fun_ext (λ c. e r c))

pub matrices : (l : ℕ) → Ring zero_m add_m (mul_m l) transpose
unfolding add_m mul_m transpose
matrices l = record {
  add_assoc = λ a b c. entries (λ x y. F.add_assoc (a x y) (b x y) (c x y));
  add_comm = λ a b. entries (λ x y. F.add_comm (a x y) (b x y));
  add-zero = λ a. entries (λ x y. F.add-zero (a x y));
  add-self = λ a. entries (λ x y. F.add-self (a x y));
  mul_assoc = λ a b c. entries (λ x y. simp (mul-sum field-ring, sum-mul field-ring, F.mul_assoc) (sum-swap field-ring l l _));
  mul-add = λ a b c. entries (λ x y. sum-cong field-ring l (λ k h. F.mul-add (a x k) (b k y) (c k y)) ∙ sum-add field-ring l _ _);
  add-mul = λ a b c. entries (λ x y. sum-cong field-ring l (λ k h. F.add-mul (a x k) (b x k) (c k y)) ∙ sum-add field-ring l _ _);
  tr-add = λ a b. refl;
  tr-mul = λ a b. entries (λ x y. sum-cong field-ring l (λ k h. F.mul_comm (a y k) (b k x)));
  tr-tr = λ a. refl;
}

pub matrices-scaled : (l : ℕ) → Scaled add_m (mul_m l) transpose scale_m
unfolding add_m mul_m transpose scale_m
matrices-scaled l = record {
  scale-add = λ c a b. entries (λ x y. F.mul-add c (a x y) (b x y));
  scale-mul = λ c a b. entries (λ x y. sum-cong field-ring l (λ k h. F.mul_assoc c (a x k) (b k y)) ∙ sym (mul-sum field-ring c l _));
  mul-scale = λ c a b. entries (λ x y. sum-cong field-ring l (λ k h. F.mul_left_comm (a x k) c (b k y)) ∙ sym (mul-sum field-ring c l _));
  tr-scale = λ c a. refl;
  scale-scale = λ c d a. entries (λ x y. F.mul_left_comm c d (a x y));
}
