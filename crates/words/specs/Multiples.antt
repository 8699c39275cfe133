-- A table of words that holds eight multiples of each row of a byte table, from which every multiple is the sum of two.
-- Rests on Words and field's products.
use Rattle.std.specs.Prelude.{◌≡◌, refl, List, ℕ, ◌+◌, ◌-◌, ◌*◌, ◌/◌, ◌%◌, ◌^◌, ◌<◌, ◌≤◌, T, eqb, ltb, length, get_or, set}
use Rattle.std.proofs.Common.{sym, ap, ap₂, ◌∙◌, not-suc-le-zero, arith, eqb→eq, lt-ltb, le-ltb, length-set, get_or-set_same, get_or-set_other}
use Rattle.std.proofs.Math.Decide.{dec_lt}
use Rattle.ground.specs.Pick.{pick}
use Rattle.ground.specs.Place.{row_fits}
use Rattle.ground.specs.Tests.{every, below2}
use Rattle.std.specs.Int.Bits.{bit_xor}
use Rattle.std.proofs.lemmas.Nat.{mod-pow-add}
use Rattle.field.specs.Field.{add, mul}
use Rattle.field.specs.Laws.{mul-lt, mul_mod_left, add-mul}
use Rattle.words.specs.Words.{word_of, word-cong, word_none, word_next, word_room}

-- the word of p times row[at..at + n]
unfoldable pub multiple_of : (n : ℕ) (row : List ℕ) (at p : ℕ) → ℕ
multiple_of n row at p = word_of n (λ c. mul p (get_or row (at + c) 0))

-- the word of the multiples from element c on: what a loop that goes from the last element to the first has made
unfoldable pub multiple_from : (n : ℕ) (row : List ℕ) (at p c : ℕ) → ℕ
multiple_from n row at p c = word_of (n - c) (λ y. mul p (get_or row (at + (c + y)) 0))

-- what word q of a row's eight is a multiple by: 0, 1, 2, 3, then 0, 4, 8, 12
unfoldable pub factor_of : ℕ → ℕ
factor_of q = pick (ltb q 4) q (4 * (q - 4))

-- word 8·x + q of the table is row x of src times the factor of q, for count rows of n bytes
pub record Multiples (n count : ℕ) (src table : List ℕ) : Type 0 where
  pub word : (x q : ℕ) → x < count → q < 8 → get_or table (x * 8 + q) 0 ≡ multiple_of n src (x * n) (factor_of q)

-- the multiples of the first rows
pub fewer-multiples : {n a b : ℕ} {src table : List ℕ} → Multiples n a src table → b ≤ a → Multiples n b src table
fewer-multiples m h = record { word = λ x p hx hp. m.word x p (omega arith) hp }

-- the table before and after it was filled: words behind the multiples stay
pub record Multiplied (n count : ℕ) (src before after : List ℕ) : Type 0 where
  pub long : length after ≡ length before
  pub words : Multiples n count src after
  pub behind : (k : ℕ) → count * 8 ≤ k → get_or after k 0 ≡ get_or before k 0

-- ---- a product as the sum of two multiples

-- the lower and the upper two coefficients of an element
halves-test : T (every 4 (λ a. every 4 (λ b. eqb (bit_xor b (4 * a)) (a * 4 + b))))
halves-test = tt

halves : (a b : ℕ) → a < 4 → b < 4 → add b (4 * a) ≡ a * 4 + b
unfolding add
halves a b ha hb = eqb→eq _ _ (below2 4 (λ a b. eqb (bit_xor b (4 * a)) (a * 4 + b)) halves-test a b ha hb)

-- the factor's two cases
pub factor-low : (q : ℕ) → q < 4 → q ≡ factor_of q
unfolding factor_of
factor-low q h = rw (lt-ltb q 4 h)

pub factor-high : (q : ℕ) → 4 ≤ q → 4 * (q - 4) ≡ factor_of q
unfolding factor_of
factor-high q h = rw (le-ltb q 4 h)

-- a scalar is read modulo 16; its product with y is that of its two halves
pub product-halves : (s y : ℕ) → add (mul (factor_of (s % 4)) y) (mul (factor_of (4 + s / 4 % 4)) y) ≡ mul s y
product-halves s y =
    let element : s % 16 ≡ s / 4 % 4 * 4 + s % 4 = mod-pow-add s 2 2 in
    let back : 4 + s / 4 % 4 - 4 ≡ s / 4 % 4 = omega arith in
    let low : factor_of (s % 4) ≡ s % 4 = sym (factor-low (s % 4) (omega arith)) in
    let high : factor_of (4 + s / 4 % 4) ≡ 4 * (s / 4 % 4) = sym (factor-high (4 + s / 4 % 4) (omega arith)) ∙ ap (λ x. 4 * x) back in
    let both : add (factor_of (s % 4)) (factor_of (4 + s / 4 % 4)) ≡ s % 16 =
    ap₂ add low high ∙ halves (s / 4 % 4) (s % 4) (omega arith) (omega arith) ∙ sym element in
    sym (add-mul (factor_of (s % 4)) (factor_of (4 + s / 4 % 4)) y) ∙ ap (λ p. mul p y) both ∙ mul_mod_left s y

-- ---- one multiple, from its last element to its first

pub multiple-none : (n : ℕ) (row : List ℕ) (at p : ℕ) → multiple_from n row at p n ≡ 0
unfolding multiple_from
multiple-none n row at p = word_none n _

pub multiple-next : (n : ℕ) (row : List ℕ) (at p c : ℕ) {w e : ℕ} → 0 < c → c ≤ n → w ≡ multiple_from n row at p c → e ≡ mul p (get_or row (at + (c - 1)) 0)
    → w * 16 + e ≡ multiple_from n row at p (c - 1)
unfolding multiple_from
multiple-next n row at p c some fits w-is e-is =
    let back : c - 1 + 1 ≡ c = omega arith in
    let last : word_of (n - (c - 1 + 1)) (λ y. mul p (get_or row (at + (c - 1 + 1 + y)) 0)) * 16 + mul p (get_or row (at + (c - 1)) 0)
    ≡ word_of (n - (c - 1)) (λ y. mul p (get_or row (at + (c - 1 + y)) 0)) = word_next n (c - 1) (λ y. mul p (get_or row (at + y) 0)) (omega arith) in
    ap₂ (λ w e. w * 16 + e) w-is e-is ∙ rw back at last

pub multiple-end : (n : ℕ) (row : List ℕ) (at p : ℕ) → multiple_from n row at p 0 ≡ multiple_of n row at p
unfolding multiple_from multiple_of
multiple-end n row at p =
    let all : n - 0 ≡ n = omega arith in
    ap (λ k. word_of k (λ y. mul p (get_or row (at + (0 + y)) 0))) all ∙ word-cong n (λ y. ap (λ k. mul p (get_or row (at + k) 0)) (omega arith))

-- one element more fits a word of 64 bits
pub multiple-room : (n : ℕ) (row : List ℕ) (at p c : ℕ) → 0 < c → n ≤ 16 → multiple_from n row at p c < 16 ^ 15
unfolding multiple_from
multiple-room n row at p c some fits = word_room (n - c) _ (omega arith) (λ y. mul-lt p _)

-- ---- the table, word after word

-- word k of the table
abbrev pub word_at : (n : ℕ) (src : List ℕ) (k : ℕ) → ℕ
word_at n src k = multiple_of n src (k / 8 * n) (factor_of (k % 8))

-- after k words
pub record Multiplying (n : ℕ) (src before : List ℕ) (k : ℕ) (t : List ℕ) : Type 0 where
  pub long : length t ≡ length before
  pub done : (j : ℕ) → j < k → get_or t j 0 ≡ word_at n src j
  pub behind : (j : ℕ) → k ≤ j → get_or t j 0 ≡ get_or before j 0

pub multiplying-none : {n : ℕ} {src d : List ℕ} → Multiplying n src d 0 d
multiplying-none = record { long = refl; done = λ j h. absurd (not-suc-le-zero h); behind = λ j h. refl }

pub multiplying-next : {n : ℕ} {src d t : List ℕ} {k : ℕ} → Multiplying n src d k t → k < length d → (w : ℕ) → w ≡ word_at n src k → Multiplying n src d (k + 1) (set t k w)
multiplying-next {n} {src} {d} {t} {k} p l w e = record {
  long = length-set t k w ∙ p.long;
  done = λ j h.
      elim (dec_lt j k) [
        | yes b ↦ get_or-set_other t k j w 0 (omega arith) ∙ p.done j b
        | no b ↦ let j-is : j ≡ k = omega arith in rw j-is (get_or-set_same t k w 0 (omega (arith, p.long)) ∙ e)
      ];
  behind = λ j h. get_or-set_other t k j w 0 (omega arith) ∙ p.behind j (omega arith);
}

pub multiplying-end : {n count : ℕ} {src d t : List ℕ} {k : ℕ} → Multiplying n src d k t → k ≤ count * 8 → count * 8 ≤ k → Multiplied n count src d t
multiplying-end {n} {count} {src} {d} {t} {k} p h l = record {
  long = p.long;
  words = record {
    word = λ x y hx hy.
        let row : (x * 8 + y) / 8 ≡ x = omega arith in
        let factor : (x * 8 + y) % 8 ≡ y = omega arith in
        p.done (x * 8 + y) (omega (arith, row_fits 8 hx)) ∙ ap₂ (λ a b. multiple_of n src (a * n) (factor_of b)) row factor;
  };
  behind = λ j hj. p.behind j (omega arith);
}
