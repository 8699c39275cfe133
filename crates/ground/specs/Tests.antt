-- Tests over small ranges: a law about all numbers below n is proved by computing one test.
-- Rests on Pick.
use Rattle.std.specs.Prelude.{◌≡◌, refl, Bool, true, false, ℕ, zero, suc, ◌+◌, ◌<◌, T}
use Rattle.std.proofs.Common.{ap, ap₂, subst, sym, ◌∙◌, not-suc-le-zero, add-one, arith}
use Rattle.std.proofs.Math.Decide.{dec_lt}
use Rattle.ground.specs.Pick.{both, both_left, both_right, both_true}

-- the test holds of every number below n
abbrev pub every : ℕ → (ℕ → Bool) → Bool
every zero f = true
every (suc n) f = both (f n) (every n f)

-- a computed test of two is a test of each
pub both_first : (a b : Bool) → T (both a b) → T a
both_first true b t = tt
both_first false b t = t

pub both_rest : (a b : Bool) → T (both a b) → T b
both_rest true b t = t
both_rest false b t = absurd t

pub below : (n : ℕ) (f : ℕ → Bool) → T (every n f) → (k : ℕ) → k < n → T (f k)
below zero f t k h = absurd (not-suc-le-zero h)
below (suc n) f t k h =
    elim (dec_lt k n) [
      | yes l ↦ below n f (both_rest (f n) (every n f) t) k l
      | no l ↦ subst (λ (m : ℕ). T (f m)) (sym (omega arith)) (both_first (f n) (every n f) t)
    ]

pub below2 : (n : ℕ) (f : ℕ → ℕ → Bool) → T (every n (λ a. every n (f a))) → (a b : ℕ) → a < n → b < n → T (f a b)
below2 n f t a b ha hb = below n (f a) (below n (λ x. every n (f x)) t a ha) b hb

pub below3 : (n : ℕ) (f : ℕ → ℕ → ℕ → Bool) → T (every n (λ a. every n (λ b. every n (f a b)))) → (a b c : ℕ) → a < n → b < n → c < n → T (f a b c)
below3 n f t a b c ha hb hc = below n (f a b) (below2 n (λ x y. every n (f x y)) t a b ha hb) c hc

-- the test as a fact: it holds exactly where each test does

pub every-none : (f : ℕ → Bool) → every 0 f ≡ true
every-none f = refl

pub every_more : (n : ℕ) (f : ℕ → Bool) → every n f ≡ true → f n ≡ true → every (n + 1) f ≡ true
every_more n f t e = rw (add-one n) (both_true e t)

pub every-at : (n : ℕ) (f : ℕ → Bool) → every n f ≡ true → (k : ℕ) → k < n → f k ≡ true
every-at zero f e k h = absurd (not-suc-le-zero h)
every-at (suc n) f e k h =
    elim (dec_lt k n) [
      | yes l ↦ every-at n f (both_right (f n) (every n f) e) k l
      | no l ↦ let at : k ≡ n = omega arith in ap f at ∙ both_left (f n) (every n f) e
    ]

pub every_true : (n : ℕ) (f : ℕ → Bool) → ((k : ℕ) → k < n → f k ≡ true) → every n f ≡ true
every_true zero f e = refl
every_true (suc n) f e = both_true (e n (omega arith)) (every_true n f (λ k h. e k (omega arith)))

pub every-fails : (n : ℕ) (f : ℕ → Bool) (k : ℕ) → k < n → f k ≡ false → every n f ≡ false
every-fails zero f k h e = absurd (not-suc-le-zero h)
every-fails (suc n) f k h e = elim (dec_lt k n) [ yes l ↦ rw (every-fails n f k l e) (none (f n)) | no l ↦ let here : n ≡ k = omega arith in rw (here, e) ]
  where
    none : (b : Bool) → both b false ≡ false
    none true = refl
    none false = refl

pub every-cong : (n : ℕ) (f g : ℕ → Bool) → ((k : ℕ) → k < n → f k ≡ g k) → every n f ≡ every n g
every-cong zero f g e = refl
every-cong (suc n) f g e = ap₂ both (e n (omega arith)) (every-cong n f g (λ k h. e k (omega arith)))
