-- Choosing by a test, and a row of tests.
-- Rests on nothing.
use Rattle.std.specs.Prelude.{◌≡◌, refl, Bool, true, false, ℕ}

-- the first where the test holds, else the second
abbrev pub pick : {A : Type 0} → Bool → A → A → A
pick true a b = a
pick false a b = b

-- both tests hold
abbrev pub both : Bool → Bool → Bool
both true b = b
both false b = false

pub both_left : (a b : Bool) → both a b ≡ true → a ≡ true
both_left true b t = refl
both_left false b t = t

pub both_right : (a b : Bool) → both a b ≡ true → b ≡ true
both_right true b t = t
both_right false b t = cc

pub both_true : {a b : Bool} → a ≡ true → b ≡ true → both a b ≡ true
both_true {a} {b} p q = cc

-- what a choice comes to once the test's answer is known: b is the answer that a call gave, c what its contract says it is
pub picked_first : {b c : Bool} {x y : ℕ} (z : ℕ) → b ≡ c → b ≡ true → x ≡ y → x ≡ pick c y z
picked_first z e t h = cc

pub picked-second : {b c : Bool} {x z : ℕ} (y : ℕ) → b ≡ c → b ≡ false → x ≡ z → x ≡ pick c y z
picked-second y e f h = cc
