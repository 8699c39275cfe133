-- The step mappings bit by bit, as FIPS 202, section 3.2, states them of A[x, y, z]: what a reader compares with the standard.
-- Rests on Bits and Words.
use Rattle.std.specs.Prelude.{◌≡◌, List, ℕ, ◌+◌, ◌-◌, ◌*◌, ◌/◌, ◌%◌, ◌<◌, T, get_or, length}
use Rattle.std.proofs.Math.Path.{ap, ap₂}
use Rattle.std.proofs.Common.{◌∙◌, mod-eq_of_lt, arith, ltb→lt, get_or-set_same, get_or-set_other}
use Rattle.std.proofs.Math.Arith.{digits_div, digits_mod}
use Rattle.std.proofs.Math.Dec.{ltb}
use Rattle.ground.specs.Tests.{every, below2}
use Rattle.ground.specs.Fill.{get_or-tab}
use Rattle.keccak.specs.Keccak.{xor, and, not, rotl, lane, state, column, theta, offsets, rho, pi, chi, iota}
use Rattle.keccak.specs.Bits.{bit, bit_xor, bit-and, bit_not, bit-rotl}
use Rattle.keccak.specs.Words.{Words, column-lt, lane-lt}

-- A[x, y, z]
unfoldable pub A : List ℕ → ℕ → ℕ → ℕ → ℕ
A a x y z = bit (lane a x y) z

pub lane-state : (f : ℕ → ℕ → ℕ) (x y : ℕ) → x < 5 → y < 5 → lane (state f) x y ≡ f x y
unfolding lane state
lane-state f x y hx hy =
    let p : ℕ = 5 * (y % 5) + x % 5 in
    let same : p ≡ y * 5 + x = omega (arith, mod-eq_of_lt hx, mod-eq_of_lt hy) in
    get_or-tab 25 (λ k. f (k % 5) (k / 5)) p (omega arith) ∙ ap₂ f (ap (λ k. k % 5) same ∙ digits_mod y hx) (ap (λ k. k / 5) same ∙ digits_div y hx)

-- C[x, z]
unfoldable pub C : List ℕ → ℕ → ℕ → ℕ
C a x z = xor (xor (xor (xor (A a x 0 z) (A a x 1 z)) (A a x 2 z)) (A a x 3 z)) (A a x 4 z)

column-bit : (a : List ℕ) (x z : ℕ) → bit (column a x) z ≡ C a x z
unfolding column C A
column-bit a x z = simp bit_xor

offset-test : T (every 5 (λ x. every 5 (λ y. ltb (lane offsets x y) 64)))
unfolding lane offsets
offset-test = tt

module _ (a : List ℕ) (w : Words a) (x y z : ℕ) (hx : x < 5) (hy : y < 5) (hz : z < 64) where
  -- Algorithm 1: A'[x, y, z] = A[x, y, z] + C[x - 1, z] + C[x + 1, z - 1]
  pub theta-bit : A (theta a) x y z ≡ xor (A a x y z) (xor (C a (x + 4) z) (C a (x + 1) ((z + 63) % 64)))
  unfolding A theta
  theta-bit =
      ap (λ l. bit l z) (lane-state (λ x y. xor (lane a x y) (xor (column a (x + 4)) (rotl (column a (x + 1)) 1))) x y hx hy)
      ∙ bit_xor (lane a x y) (xor (column a (x + 4)) (rotl (column a (x + 1)) 1)) z
      ∙ ap (xor (bit (lane a x y) z)) (bit_xor (column a (x + 4)) (rotl (column a (x + 1)) 1) z
      ∙ ap₂ xor (column-bit a (x + 4) z) (bit-rotl (column a (x + 1)) 1 z (column-lt a w (x + 1)) (omega arith) hz ∙ column-bit a (x + 1) ((z + 63) % 64)))

  -- Algorithm 2: A'[x, y, z] = A[x, y, z - offset]
  pub rho-bit : A (rho a) x y z ≡ A a x y ((z + (64 - lane offsets x y)) % 64)
  unfolding A rho
  rho-bit =
      ap (λ l. bit l z) (lane-state (λ x y. rotl (lane a x y) (lane offsets x y)) x y hx hy)
      ∙ bit-rotl (lane a x y) (lane offsets x y) z (lane-lt a w x y) (ltb→lt _ _ (below2 5 (λ x y. ltb (lane offsets x y) 64) offset-test x y hx hy)) hz

  -- Algorithm 3: A'[x, y, z] = A[x + 3y, x, z]
  pub pi-bit : A (pi a) x y z ≡ A a (x + 3 * y) x z
  unfolding A pi
  pi-bit = ap (λ l. bit l z) (lane-state (λ x y. lane a (x + 3 * y) x) x y hx hy)

  -- Algorithm 4: A'[x, y, z] = A[x, y, z] + (A[x + 1, y, z] + 1) · A[x + 2, y, z]
  pub chi-bit : A (chi a) x y z ≡ xor (A a x y z) (and (xor (A a (x + 1) y z) 1) (A a (x + 2) y z))
  unfolding A chi
  chi-bit =
      ap (λ l. bit l z) (lane-state (λ x y. xor (lane a x y) (and (not (lane a (x + 1) y)) (lane a (x + 2) y))) x y hx hy)
      ∙ bit_xor (lane a x y) (and (not (lane a (x + 1) y)) (lane a (x + 2) y)) z
      ∙ ap (xor (bit (lane a x y) z)) (bit-and (not (lane a (x + 1) y)) (lane a (x + 2) y) z
      ∙ ap (λ b. and b (bit (lane a (x + 2) y) z)) (bit_not (lane a (x + 1) y) z (lane-lt a w (x + 1) y) hz))

-- Algorithm 6: only lane (0, 0) gains the constant
pub iota-bit : (c : ℕ) (a : List ℕ) (z : ℕ) → 0 < length a → A (iota c a) 0 0 z ≡ xor (A a 0 0 z) (bit c z)
unfolding A iota lane
iota-bit c a z h = ap (λ l. bit l z) (get_or-set_same a 0 (xor (get_or a 0 0) c) 0 h) ∙ bit_xor (get_or a 0 0) c z

pub iota-other : (c : ℕ) (a : List ℕ) (x y z : ℕ) → 0 < 5 * (y % 5) + x % 5 → A (iota c a) x y z ≡ A a x y z
unfolding A iota lane
iota-other c a x y z h = ap (λ l. bit l z) (get_or-set_other a 0 (5 * (y % 5) + x % 5) (xor (get_or a 0 0) c) 0 (omega arith))
