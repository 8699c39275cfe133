-- GF(16): elements 0 to 15 are polynomials over GF(2) modulo x⁴ + x + 1 (page 01, "Field and packing"). Bit k is the coefficient of x to the k.
-- Sums and products are defined on all numbers, products read them modulo 16: so the laws of Laws.antt hold with no bound on anything.
-- Rests on the kit's exclusive or.
use Rattle.std.specs.Prelude.{ℕ, zero, suc, ◌*◌, ◌/◌, ◌%◌, eqb, ltb}
use Rattle.std.specs.Int.Bits.{bit_xor}
use Rattle.ground.specs.Pick.{pick}

-- addition is exclusive or
unfoldable pub add : ℕ → ℕ → ℕ
add a b = bit_xor a b

-- x · a, for a below 16: where a has x³, x⁴ = x + 1 takes the place of x⁴
unfoldable pub times_x : ℕ → ℕ
times_x a = pick (ltb a 8) (2 * a) (bit_xor (2 * a) 19)

-- a · b for a and b below 16, by Horner's rule over the coefficients of b
unfoldable pub times : ℕ → ℕ → ℕ
unfolding times_x
times a b = bit_xor (times_x (bit_xor (times_x (bit_xor (times_x (b / 8 % 2 * a)) (b / 4 % 2 * a))) (b / 2 % 2 * a))) (b % 2 * a)

unfoldable pub mul : ℕ → ℕ → ℕ
mul a b = times (a % 16) (b % 16)

-- the b below n with a · b = 1, or 0 where there is none
unfoldable pub inverse_below : ℕ → ℕ → ℕ
inverse_below zero a = 0
inverse_below (suc n) a = pick (eqb (mul a n) 1) n (inverse_below n a)

-- the inverse of 0 is 0
unfoldable pub inverse : ℕ → ℕ
unfolding inverse_below
inverse a = inverse_below 16 a

-- a to the k
unfoldable pub power : ℕ → ℕ → ℕ
power a zero = 1
power a (suc k) = mul a (power a k)

-- the sum of those of x1, x2, x4, x8 whose coefficient b has: with x1 = s, x2 = x · s, .. it is s · b (`mul-chosen`)
unfoldable pub chosen_of : ℕ → ℕ → ℕ → ℕ → ℕ → ℕ
chosen_of x1 x2 x4 x8 b = bit_xor (x1 * (b % 2)) (bit_xor (x2 * (b / 2 % 2)) (bit_xor (x4 * (b / 4 % 2)) (x8 * (b / 8 % 2))))
