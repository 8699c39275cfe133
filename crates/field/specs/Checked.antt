-- The finite part of the field's laws: each is one test that the prover computes over all elements.
-- Rests on Field; Laws.antt turns the tests into laws of all numbers.
use Rattle.std.specs.Prelude.{◌≡◌, refl, true, [], ◌∷◌, ◌*◌, ◌/◌, ◌%◌, T, eqb, ltb}
use Rattle.std.specs.Int.Bits.{bit_xor}
use Rattle.ground.specs.Pick.{pick}
use Rattle.ground.specs.Tests.{every}
use Rattle.ground.specs.Fill.{tab}
use Rattle.field.specs.Field.{times, mul, inverse, power, chosen_of}

pub comm-test : T (every 16 (λ a. every 16 (λ b. eqb (times a b) (times b a))))
unfolding times
comm-test = tt

pub assoc-test : T (every 16 (λ a. every 16 (λ b. every 16 (λ c. eqb (times (times a b) c) (times a (times b c))))))
unfolding times
assoc-test = tt

pub distrib-test : T (every 16 (λ a. every 16 (λ b. every 16 (λ c. eqb (times a (bit_xor b c)) (bit_xor (times a b) (times a c))))))
unfolding times
distrib-test = tt

pub range-test : T (every 16 (λ a. every 16 (λ b. ltb (times a b) 16)))
unfolding times
range-test = tt

pub one-test : T (every 16 (λ a. eqb (times 1 a) a))
unfolding times
one-test = tt

-- a product is 0 only where a factor is
pub zero_test : T (every 16 (λ a. every 16 (λ b. pick (eqb (times a b) 0) (pick (eqb a 0) true (eqb b 0)) true)))
unfolding times
zero_test = tt

pub inverse-test : T (every 16 (λ a. pick (eqb a 0) (eqb (inverse a) 0) (eqb (mul a (inverse a)) 1)))
unfolding inverse mul times
inverse-test = tt

pub inverse-range-test : T (every 16 (λ a. ltb (inverse a) 16))
unfolding inverse mul times
inverse-range-test = tt

-- the one finite fact about powers: the fifteenth of what is not 0 is 1
pub fifteen-test : T (every 16 (λ a. pick (eqb a 0) true (eqb (power a 15) 1)))
unfolding power mul times
fifteen-test = tt

pub twice-test : T (every 16 (λ a. eqb (bit_xor (a * 2 % 16) (a / 8 * 3)) (mul 2 a)))
unfolding mul times
twice-test = tt

pub chosen-test : T (every 16 (λ s. every 16 (λ b. eqb (times s b) (chosen_of s (mul 2 s) (mul 2 (mul 2 s)) (mul 2 (mul 2 (mul 2 s))) b))))
unfolding times mul chosen_of
chosen-test = tt

-- page 01: the powers of 2
pub powers-of-2 : tab 15 (power 2) ≡ 1 ∷ 2 ∷ 4 ∷ 8 ∷ 3 ∷ 6 ∷ 12 ∷ 11 ∷ 5 ∷ 10 ∷ 7 ∷ 14 ∷ 15 ∷ 13 ∷ 9 ∷ []
unfolding tab power mul times
powers-of-2 = refl
