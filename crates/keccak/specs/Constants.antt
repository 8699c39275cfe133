-- Where the numbers of Keccak come from, as FIPS 202 tells it: the offsets of rho by Algorithm 2's walk, the bits of the round constants by Algorithm 5's shift register.
-- Rests on Bits; the laws of the walk and of the register's step are computed tests.
use Rattle.std.specs.Prelude.{◌≡◌, true, false, T, eqb, ltb}
use Rattle.std.proofs.Common.{sym, ◌∙◌, add_comm, mul-le-mul_right, eq-eqb, eqb→eq, ltb→lt, pow_mono}
use Rattle.std.proofs.Math.Path.{ap, subst}
use Prim.Native.Nat.{ℕ, zero, suc, ◌+◌, ◌-◌, ◌*◌, ◌/◌, ◌%◌, ◌^◌, ◌<◌, ◌≤◌}
use Rattle.std.proofs.Math.Decide.{dec_lt, ℕ_discrete}
use Rattle.std.proofs.Math.Nat.{lt_of_lt_of_le, mod-lt, mod-eq_of_lt, div-eq_of_lt, div-add-mod'}
use native.Mathlib.Omega.{arith}
use Rattle.std.proofs.Math.Dec.{lit<}
use Rattle.std.proofs.Math.Pow.{pow-add, pow-lt, pow_pos, high}
use Rattle.ground.specs.Pick.{pick, both}
use Rattle.ground.specs.Tests.{every, below, both_first, both_rest}
use Rattle.keccak.specs.Keccak.{xor, lane, offsets, shifted, register, rc, constant_bits, round_constant}
use Rattle.keccak.specs.Bits.{bit}
use Rattle.keccak.specs.Words.{rc-lt}

-- ---- Algorithm 2: (x, y) goes from (1, 0) to (y, 2x + 3y) again and again

unfoldable pub walk : ℕ → ℕ × ℕ
walk zero = (1, 0)
walk (suc t) = ((walk t).1, (2 * (walk t).0 + 3 * (walk t).1) % 5)

walk-test : T (every 24 (λ t. eqb (lane offsets (walk t).0 (walk t).1) ((t + 1) * (t + 2) / 2 % 64)))
unfolding lane offsets walk
walk-test = tt

-- at step t it meets the lane whose offset is (t + 1)(t + 2) / 2
pub offset-walk : (t : ℕ) → t < 24 → lane offsets (walk t).0 (walk t).1 ≡ (t + 1) * (t + 2) / 2 % 64
offset-walk t h = eqb→eq _ _ (below 24 (λ t. eqb (lane offsets (walk t).0 (walk t).1) ((t + 1) * (t + 2) / 2 % 64)) walk-test t h)

-- the place of the lane that it meets at step t
abbrev pub met : ℕ → ℕ
met t = 5 * (walk t).1 + (walk t).0

each-test : T (every 24 (λ t. both (both (ltb 0 (met t)) (ltb (met t) 25)) (every t (λ u. pick (eqb (met u) (met t)) false true))))
unfolding walk
each-test = tt

at-step : (t : ℕ) → t < 24 → T (both (both (ltb 0 (met t)) (ltb (met t) 25)) (every t (λ u. pick (eqb (met u) (met t)) false true)))
at-step = below 24 (λ t. both (both (ltb 0 (met t)) (ltb (met t) 25)) (every t (λ u. pick (eqb (met u) (met t)) false true))) each-test

-- it never meets lane (0, 0), and no lane twice: so it meets all the others
pub walk-others : (t : ℕ) → t < 24 → (0 < met t) × (met t < 25)
walk-others t h =
    let inside = both_first (both (ltb 0 (met t)) (ltb (met t) 25)) (every t (λ u. pick (eqb (met u) (met t)) false true)) (at-step t h) in
    (ltb→lt 0 (met t) (both_first (ltb 0 (met t)) (ltb (met t) 25) inside), ltb→lt (met t) 25 (both_rest (ltb 0 (met t)) (ltb (met t) 25) inside))

pub walk-once : (t u : ℕ) → t < 24 → u < t → met u ≡ met t → ⊥
walk-once t u h l e =
    let differs = both_rest (both (ltb 0 (met t)) (ltb (met t) 25)) (every t (λ u. pick (eqb (met u) (met t)) false true)) (at-step t h) in
    subst (λ b. T (pick b false true)) (eq-eqb (met u) (met t) e) (below t (λ u. pick (eqb (met u) (met t)) false true) differs u l)

-- ---- Algorithm 5: the register R, eight bits, becomes 0 ‖ R; R[8] is added to R[0], R[4], R[5] and R[6], and cut off

-- the places that R[8] is added to: 113 = 1 + 16 + 32 + 64
shift-test : T (every 256 (λ r. both (ltb (shifted r) 256) (every 8 (λ k. eqb (bit (shifted r) k) (xor (bit (2 * r) k) (bit (2 * r) 8 * bit 113 k))))))
unfolding bit xor shifted
shift-test = tt

at_register : (r : ℕ) → r < 256 → T (both (ltb (shifted r) 256) (every 8 (λ k. eqb (bit (shifted r) k) (xor (bit (2 * r) k) (bit (2 * r) 8 * bit 113 k)))))
at_register = below 256 (λ r. both (ltb (shifted r) 256) (every 8 (λ k. eqb (bit (shifted r) k) (xor (bit (2 * r) k) (bit (2 * r) 8 * bit 113 k))))) shift-test

pub shifted-bit : (r k : ℕ) → r < 256 → k < 8 → bit (shifted r) k ≡ xor (bit (2 * r) k) (bit (2 * r) 8 * bit 113 k)
shifted-bit r k h l =
    eqb→eq _ _ (below 8 (λ k. eqb (bit (shifted r) k) (xor (bit (2 * r) k) (bit (2 * r) 8 * bit 113 k)))
    (both_rest (ltb (shifted r) 256) _ (at_register r h)) k l)

pub shifted-lt : (r : ℕ) → r < 256 → shifted r < 256
shifted-lt r h = ltb→lt _ _ (both_first (ltb (shifted r) 256) _ (at_register r h))

-- the register has eight bits at every step
pub register-lt : (t : ℕ) → register t < 256
unfolding register
register-lt zero = lit< tt
register-lt (suc t) = shifted-lt (register t) (register-lt t)

-- ---- the round constant: RC[2 ^ j - 1] = rc(j + 7i) for j from 0 to 6, and every other bit is 0

-- a bit b that stands at place k, above a number of k bits
module _ (lo b k : ℕ) (l : lo < 2 ^ k) (h : b < 2) where
  top-here : bit (lo + b * 2 ^ k) k ≡ b
  unfolding bit
  top-here = ap (λ x. x / 2 ^ k % 2) (add_comm lo (b * 2 ^ k)) ∙ ap (λ x. x % 2) (high b k l) ∙ mod-eq_of_lt h

  top_lt : lo + b * 2 ^ k < 2 ^ (k + 1)
  top_lt = let one : b ≤ 1 = omega arith in omega (arith, pow-add 2 k 1, mul-le-mul_right (2 ^ k) one)

  top_above : (z : ℕ) → k < z → bit (lo + b * 2 ^ k) z ≡ 0
  unfolding bit
  top_above z m = ap (λ x. x % 2) (div-eq_of_lt (lt_of_lt_of_le top_lt (pow_mono {j = z} (omega arith))))

  top_below : (z : ℕ) → z < k → bit (lo + b * 2 ^ k) z ≡ bit lo z
  unfolding bit
  top_below z m =
      let split : k ≡ k - z - 1 + 1 + z = omega arith in
      let power : 2 ^ k ≡ 2 ^ (k - z - 1) * 2 * 2 ^ z = ap (λ e. 2 ^ e) split ∙ pow-add 2 (k - z - 1 + 1) z ∙ ap (λ x. x * 2 ^ z) (pow-add 2 (k - z - 1) 1) in
      let low : lo % 2 ^ z < 2 ^ z = mod-lt lo (pow_pos z) in
      let parts : lo / 2 ^ z * 2 ^ z + lo % 2 ^ z ≡ lo = div-add-mod' lo (2 ^ z) in
      let regroup : lo + b * 2 ^ k ≡ (lo / 2 ^ z + b * 2 ^ (k - z - 1) * 2) * 2 ^ z + lo % 2 ^ z =
      ap (λ x. lo + b * x) power ∙ omega arith in
      ap (λ x. x / 2 ^ z % 2) regroup ∙ ap (λ x. x % 2) (high (lo / 2 ^ z + b * 2 ^ (k - z - 1) * 2) z low) ∙ omega arith

bit-none : (z : ℕ) → bit 0 z ≡ 0
unfolding bit
bit-none z = ap (λ x. x % 2) (div-eq_of_lt (pow_pos z))

-- the first n of the bits: all stand below place 2 ^ n - 1
module _ (i : ℕ) where
  constant-lt : (n : ℕ) → constant_bits i n < 2 ^ (2 ^ n - 1)
  unfolding constant_bits
  constant-lt zero = lit< tt
  constant-lt (suc n) =
      let more : 2 ^ n < 2 ^ suc n = pow-lt (omega arith) in
      let some : 0 < 2 ^ n = pow_pos n in
      lt_of_lt_of_le (top_lt (constant_bits i n) (rc (n + 7 * i)) (2 ^ n - 1) (constant-lt n) (rc-lt (n + 7 * i))) (pow_mono (omega arith))

  bits-here : (n j : ℕ) → j < n → bit (constant_bits i n) (2 ^ j - 1) ≡ rc (j + 7 * i)
  unfolding constant_bits
  bits-here zero j h = absurd (omega arith)
  bits-here (suc n) j h =
      elim (dec_lt j n) [
        | yes l ↦
            let less : 2 ^ j < 2 ^ n = pow-lt l in
            let some : 0 < 2 ^ j = pow_pos j in
            top_below (constant_bits i n) (rc (n + 7 * i)) (2 ^ n - 1) (constant-lt n) (rc-lt (n + 7 * i)) (2 ^ j - 1) (omega arith) ∙ bits-here n j l
        | no l ↦
            let last : j ≡ n = omega arith in
            subst (λ m. bit (constant_bits i n + rc (n + 7 * i) * 2 ^ (2 ^ n - 1)) (2 ^ m - 1) ≡ rc (m + 7 * i)) (sym last)
            (top-here (constant_bits i n) (rc (n + 7 * i)) (2 ^ n - 1) (constant-lt n) (rc-lt (n + 7 * i)))
      ]

  bits-other : (n z : ℕ) → ((j : ℕ) → j < n → z ≡ 2 ^ j - 1 → ⊥) → bit (constant_bits i n) z ≡ 0
  unfolding constant_bits
  bits-other zero z other = bit-none z
  bits-other (suc n) z other =
      elim (dec_lt z (2 ^ n - 1)) [
        | yes l ↦
            top_below (constant_bits i n) (rc (n + 7 * i)) (2 ^ n - 1) (constant-lt n) (rc-lt (n + 7 * i)) z l
            ∙ bits-other n z (λ j h. other j (omega arith))
        | no l ↦
            elim (ℕ_discrete z (2 ^ n - 1)) [
              | yes e ↦ absurd (other n (omega arith) e)
              | no e ↦ top_above (constant_bits i n) (rc (n + 7 * i)) (2 ^ n - 1) (constant-lt n) (rc-lt (n + 7 * i)) z (omega arith)
            ]
      ]

  pub round-constant-bit : (j : ℕ) → j < 7 → bit (round_constant i) (2 ^ j - 1) ≡ rc (j + 7 * i)
  unfolding round_constant
  round-constant-bit = bits-here 7

  pub round-constant-other : (z : ℕ) → ((j : ℕ) → j < 7 → z ≡ 2 ^ j - 1 → ⊥) → bit (round_constant i) z ≡ 0
  unfolding round_constant
  round-constant-other = bits-other 7
