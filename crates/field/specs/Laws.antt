-- The laws of GF(16), on all numbers; only `one-mul`, `mul-inverse` and `mul-zero-cases` ask for elements below 16.
-- Rests on the computed tests of Checked.antt, and on the kit's laws of exclusive or.
use Rattle.std.specs.Prelude.{◌≡◌, refl, true, ◌⊎◌, ℕ, zero, suc, ◌+◌, ◌*◌, ◌/◌, ◌%◌, ◌^◌, ◌<◌, T, eqb, ltb}
use Rattle.std.proofs.Common.{sym, ap, ap₂, ◌∙◌, inl, inr, mod-eq_of_lt, div-add-mod', arith, eq-eqb, ne_eqb, eqb→eq, ltb→lt}
use Rattle.std.proofs.Math.Nat.{mod-mod}
use Rattle.std.proofs.Math.Decide.{ℕ_discrete}
use Rattle.std.proofs.Math.Arith.{bin_ind}
use Rattle.std.specs.Int.Bits.{bit_xor, xor_zero_l, xor_zero_r, xor_self}
use Rattle.std.proofs.lemmas.Nat.{xor_comm, xor_lt, xor_shr, xor_mod}
use Rattle.std.proofs.Math.Pow.{field, mod-mod-pow}
use Rattle.ground.specs.Pick.{pick}
use Rattle.ground.specs.Tests.{every, below, below2, below3}
use Rattle.field.specs.Field.{add, times, mul, inverse, inverse_below, chosen_of}
use Rattle.field.specs.Checked.{comm-test, assoc-test, distrib-test, range-test, one-test, zero_test}
use Rattle.field.specs.Checked.{inverse-test, inverse-range-test, twice-test, chosen-test}

-- ---- sums

pub add_comm : (a b : ℕ) → add a b ≡ add b a
unfolding add
add_comm a b = xor_comm a b

pub add-zero : (a : ℕ) → add a 0 ≡ a
unfolding add
add-zero a = xor_zero_r a

pub zero-add : (a : ℕ) → add 0 a ≡ a
unfolding add
zero-add a = xor_zero_l a

-- characteristic 2: minus is plus
pub add-self : (a : ℕ) → add a a ≡ 0
unfolding add
add-self a = xor_self a

pub add-lt : (a b : ℕ) → a < 16 → b < 16 → add a b < 16
unfolding add
add-lt a b ha hb = xor_lt 4 a b ha hb

pub add-mod : (a b : ℕ) → add a b % 16 ≡ add (a % 16) (b % 16)
unfolding add
add-mod a b = xor_mod a b 4

digit-test : T (every 2 (λ a. every 2 (λ b. every 2 (λ c. eqb (bit_xor (bit_xor a b) c) (bit_xor a (bit_xor b c))))))
digit-test = tt

-- a number is its half and its last digit
halves : {x y : ℕ} → x / 2 ^ 1 ≡ y / 2 ^ 1 → x % 2 ^ 1 ≡ y % 2 ^ 1 → x ≡ y
halves {x} {y} h d = sym (div-add-mod' x 2) ∙ ap₂ (λ p q. p * 2 + q) h d ∙ div-add-mod' y 2

xor_assoc : (a b c : ℕ) → bit_xor (bit_xor a b) c ≡ bit_xor a (bit_xor b c)
xor_assoc =
    bin_ind (λ a. (b c : ℕ) → bit_xor (bit_xor a b) c ≡ bit_xor a (bit_xor b c))
    (λ b c. ap (λ x. bit_xor x c) (xor_zero_l b) ∙ sym (xor_zero_l (bit_xor b c)))
    (λ a half b c.
    halves
    (xor_shr (bit_xor a b) c 1 ∙ ap (λ x. bit_xor x (c / 2)) (xor_shr a b 1) ∙ half (b / 2) (c / 2)
    ∙ ap (bit_xor (a / 2)) (sym (xor_shr b c 1)) ∙ sym (xor_shr a (bit_xor b c) 1))
    (xor_mod (bit_xor a b) c 1 ∙ ap (λ x. bit_xor x (c % 2)) (xor_mod a b 1)
    ∙ eqb→eq _ _ (below3 2 (λ x y z. eqb (bit_xor (bit_xor x y) z) (bit_xor x (bit_xor y z))) digit-test (a % 2) (b % 2) (c % 2) (omega arith) (omega arith) (omega arith))
    ∙ ap (bit_xor (a % 2)) (sym (xor_mod b c 1)) ∙ sym (xor_mod a (bit_xor b c) 1)))

pub add_assoc : (a b c : ℕ) → add (add a b) c ≡ add a (add b c)
unfolding add
add_assoc a b c = xor_assoc a b c

-- ---- products

digit : (a : ℕ) → a % 16 < 16
digit a = omega arith

times-lt : (a b : ℕ) → a < 16 → b < 16 → times a b < 16
times-lt a b ha hb = ltb→lt _ _ (below2 16 (λ x y. ltb (times x y) 16) range-test a b ha hb)

pub mul-lt : (a b : ℕ) → mul a b < 16
unfolding mul
mul-lt a b = times-lt (a % 16) (b % 16) (digit a) (digit b)

-- a product reads its factors modulo 16, and is an element itself
pub mul_mod_left : (a b : ℕ) → mul (a % 16) b ≡ mul a b
unfolding mul
mul_mod_left a b = rw mod-mod

pub mul_mod_right : (a b : ℕ) → mul a (b % 16) ≡ mul a b
unfolding mul
mul_mod_right a b = rw mod-mod

pub mul-mod : (a b : ℕ) → mul a b % 16 ≡ mul a b
mul-mod a b = mod-eq_of_lt (mul-lt a b)

pub mul_comm : (a b : ℕ) → mul a b ≡ mul b a
unfolding mul
mul_comm a b = eqb→eq _ _ (below2 16 (λ x y. eqb (times x y) (times y x)) comm-test (a % 16) (b % 16) (digit a) (digit b))

pub mul_assoc : (a b c : ℕ) → mul (mul a b) c ≡ mul a (mul b c)
unfolding mul
mul_assoc a b c =
    ap (λ x. times x (c % 16)) (mul-mod a b)
    ∙ eqb→eq _ _ (below3 16 (λ x y z. eqb (times (times x y) z) (times x (times y z))) assoc-test (a % 16) (b % 16) (c % 16) (digit a) (digit b) (digit c))
    ∙ ap (times (a % 16)) (sym (mul-mod b c))

pub mul_left_comm : (a b c : ℕ) → mul a (mul b c) ≡ mul b (mul a c)
mul_left_comm a b c = sym (mul_assoc a b c) ∙ ap (λ x. mul x c) (mul_comm a b) ∙ mul_assoc b a c

pub mul-add : (a b c : ℕ) → mul a (add b c) ≡ add (mul a b) (mul a c)
unfolding mul add
mul-add a b c =
    ap (times (a % 16)) (add-mod b c)
    ∙ eqb→eq _ _ (below3 16 (λ x y z. eqb (times x (bit_xor y z)) (bit_xor (times x y) (times x z))) distrib-test (a % 16) (b % 16) (c % 16) (digit a) (digit b) (digit c))

pub add-mul : (a b c : ℕ) → mul (add a b) c ≡ add (mul a c) (mul b c)
add-mul a b c = mul_comm (add a b) c ∙ mul-add c a b ∙ ap₂ add (mul_comm c a) (mul_comm c b)

pub mul-zero : (a : ℕ) → mul a 0 ≡ 0
mul-zero a = ap (mul a) (sym (add-self 0)) ∙ mul-add a 0 0 ∙ add-self (mul a 0)

pub zero-mul : (a : ℕ) → mul 0 a ≡ 0
zero-mul a = mul_comm 0 a ∙ mul-zero a

pub one-mul : (a : ℕ) → a < 16 → mul 1 a ≡ a
unfolding mul
one-mul a h = ap (times 1) (mod-eq_of_lt h) ∙ eqb→eq _ _ (below 16 (λ x. eqb (times 1 x) x) one-test a h)

pub mul-one : (a : ℕ) → a < 16 → mul a 1 ≡ a
mul-one a h = mul_comm a 1 ∙ one-mul a h

-- a product of elements is 0 only where a factor is
pub mul-zero-cases : (a b : ℕ) → a < 16 → b < 16 → mul a b ≡ 0 → (a ≡ 0) ⊎ (b ≡ 0)
unfolding mul
mul-zero-cases a b ha hb e = by (ℕ_discrete a 0)
  where
    product : times a b ≡ 0
    product = sym (ap₂ times (mod-eq_of_lt ha) (mod-eq_of_lt hb)) ∙ e

    test : T (pick (eqb (times a b) 0) (pick (eqb a 0) true (eqb b 0)) true)
    test = below2 16 (λ x y. pick (eqb (times x y) 0) (pick (eqb x 0) true (eqb y 0)) true) zero_test a b ha hb

    by : Dec (a ≡ 0) → (a ≡ 0) ⊎ (b ≡ 0)
    by (yes z) = inl z
    by (no n) = inr (eqb→eq b 0 (rw (eq-eqb (times a b) 0 product, ne_eqb a 0 n) at test))

-- ---- the inverse

pub inverse-zero : inverse 0 ≡ 0
unfolding inverse mul times
inverse-zero = refl

inverse-passes : (a : ℕ) → a < 16 → T (pick (eqb a 0) (eqb (inverse a) 0) (eqb (mul a (inverse a)) 1))
inverse-passes a h = below 16 (λ x. pick (eqb x 0) (eqb (inverse x) 0) (eqb (mul x (inverse x)) 1)) inverse-test a h

pub mul-inverse : (a : ℕ) → a < 16 → (a ≡ 0 → ⊥) → mul a (inverse a) ≡ 1
mul-inverse a h n = eqb→eq _ _ (rw (ne_eqb a 0 n) at (inverse-passes a h))

pub inverse-lt : (a : ℕ) → a < 16 → inverse a < 16
inverse-lt a h = ltb→lt _ _ (below 16 (λ x. ltb (inverse x) 16) inverse-range-test a h)

below-mod : (n a : ℕ) → inverse_below n (a % 16) ≡ inverse_below n a
unfolding inverse_below
below-mod zero a = refl
below-mod (suc n) a = ap₂ (λ x y. pick (eqb x 1) n y) (mul_mod_left a n) (below-mod n a)

pub inverse-mod : (a : ℕ) → inverse (a % 16) ≡ inverse a
unfolding inverse
inverse-mod a = below-mod 16 a

-- ---- the product as the code forms it: the multiples of s by 1, x, x², x³, those chosen that b has

-- x · a by halves: what is doubled below 16, and x + 1 for x⁴
pub twice-is : (a : ℕ) → bit_xor (a % 16 * 2 % 16) (a % 16 / 8 * 3) ≡ mul 2 a
twice-is a = eqb→eq _ _ (below 16 (λ x. eqb (bit_xor (x * 2 % 16) (x / 8 * 3)) (mul 2 x)) twice-test (a % 16) (digit a)) ∙ mul_mod_right 2 a

-- a choice by b's last four digits
chosen-mod : (x1 x2 x4 x8 b : ℕ) → chosen_of x1 x2 x4 x8 (b % 16) ≡ chosen_of x1 x2 x4 x8 b
unfolding chosen_of
chosen-mod x1 x2 x4 x8 b =
    let d0 : b % 16 % 2 ≡ b % 2 = mod-mod-pow b 3 1 in
    let d1 : b % 16 / 2 % 2 ≡ b / 2 % 2 = ap (λ x. x % 2) (field b 3 1) ∙ mod-mod-pow (b / 2) 2 1 in
    let d2 : b % 16 / 4 % 2 ≡ b / 4 % 2 = ap (λ x. x % 2) (field b 2 2) ∙ mod-mod-pow (b / 4) 1 1 in
    let d3 : b % 16 / 8 % 2 ≡ b / 8 % 2 = ap (λ x. x % 2) (field b 1 3) ∙ mod-mod (b / 8) 2 in
    rw (d0, d1, d2, d3)

chosen_is : (s b : ℕ) → s < 16 → b < 16 → times s b ≡ chosen_of s (mul 2 s) (mul 2 (mul 2 s)) (mul 2 (mul 2 (mul 2 s))) b
chosen_is s b hs hb =
    eqb→eq _ _ (below2 16 (λ x y. eqb (times x y) (chosen_of x (mul 2 x) (mul 2 (mul 2 x)) (mul 2 (mul 2 (mul 2 x))) y)) chosen-test s b hs hb)

pub mul-chosen : (s b x1 x2 x4 x8 : ℕ) → x1 ≡ s % 16 → x2 ≡ mul 2 x1 → x4 ≡ mul 2 x2 → x8 ≡ mul 2 x4 → chosen_of x1 x2 x4 x8 b ≡ mul s b
unfolding mul
mul-chosen s b x1 x2 x4 x8 e1 e2 e4 e8 = cc (chosen-mod x1 x2 x4 x8 b, chosen_is (s % 16) (b % 16) (digit s) (digit b))
