-- Where the rows of one matrix index stand in a table of power sums.
-- Rests on the kit's arithmetic.
use Rattle.std.specs.Prelude.{◌≡◌, ℕ, ◌+◌, ◌*◌, ◌<◌, ◌≤◌}
use Rattle.std.proofs.Common.{ap, mul-le-mul, mul-le-mul_left, mul-le-mul_right, arith}
use Rattle.std.proofs.Math.Decide.{dec_lt}

-- where the block rows of one matrix index begin
pub sums-start : (l index n : ℕ) → (index + 1) * (l * l) * (l * l) ≤ n → index * l ≤ n
sums-start l index n h =
    elim (dec_lt 0 l) [
      | yes b ↦ let one : 1 * (1 * 1) ≤ l * (l * l) = mul-le-mul b (mul-le-mul b b) in omega (arith, mul-le-mul_left (index * l) one)
      | no b ↦ let none : l ≡ 0 = omega arith in omega (arith, ap (λ x. index * x) none)
    ]

-- the blocks of one matrix index lie within the table of power sums
pub sums-within : (l : ℕ) {o index n : ℕ} → index < o → o * (l * l) * (l * l) ≤ n → (index + 1) * (l * l) * (l * l) ≤ n
sums-within l {o} {index} h fits = let next : index + 1 ≤ o = omega arith in omega (arith, mul-le-mul_right (l * l * (l * l)) next)
