-- GF(16) is a ring of characteristic 2 whose transpose does nothing: so algebra's laws of finite sums hold of sums of elements.
-- Rests on Laws and on the crate algebra.
use Rattle.std.specs.Prelude.{refl, ℕ, zero, suc, ◌<◌}
use Rattle.std.proofs.Common.{arith}
use Rattle.algebra.specs.Ring.{Ring}
use Rattle.algebra.specs.Sum.{sum}
use Rattle.field.specs.Field.{add, mul}
use Rattle.field.specs.Laws.{add_assoc, add_comm, add-zero, add-self, add-lt, mul_assoc, mul-add, add-mul, mul_comm}

pub field-ring : Ring 0 add mul (λ (a : ℕ). a)
field-ring = record {
  add_assoc = add_assoc;
  add_comm = add_comm;
  add-zero = add-zero;
  add-self = add-self;
  mul_assoc = mul_assoc;
  mul-add = mul-add;
  add-mul = add-mul;
  tr-add = λ a b. refl;
  tr-mul = mul_comm;
  tr-tr = λ a. refl;
}

-- a sum of elements is an element
pub sum_lt : (n : ℕ) {f : ℕ → ℕ} → ((k : ℕ) → k < n → f k < 16) → sum 0 add n f < 16
unfolding sum
sum_lt zero h = omega arith
sum_lt (suc n) h = add-lt _ _ (sum_lt n (λ k l. h k (omega arith))) (h n (omega arith))
