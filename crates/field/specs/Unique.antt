-- Every public function of this crate promises an equation with a definition: no second answer meets it.
-- Rests on ground's `unique-equation`.
use Rattle.std.specs.Prelude.{◌≡◌, ℕ}
use Rattle.ground.specs.Outcome.{unique-equation}
use Rattle.field.specs.Field.{add, mul, inverse, power, chosen_of}

pub unique-add : (a b : ℕ) {r r' : ℕ} → r ≡ add a b → r' ≡ add a b → r ≡ r'
unique-add a b = unique-equation

pub unique-twice : (a : ℕ) {r r' : ℕ} → r ≡ mul 2 a → r' ≡ mul 2 a → r ≡ r'
unique-twice a = unique-equation

pub unique-chosen : (x1 x2 x4 x8 b : ℕ) {r r' : ℕ} → r ≡ chosen_of x1 x2 x4 x8 b → r' ≡ chosen_of x1 x2 x4 x8 b → r ≡ r'
unique-chosen x1 x2 x4 x8 b = unique-equation

pub unique-mul : (a b : ℕ) {r r' : ℕ} → r ≡ mul a b → r' ≡ mul a b → r ≡ r'
unique-mul a b = unique-equation

pub unique-inverse : (a : ℕ) {r r' : ℕ} → r ≡ inverse a → r' ≡ inverse a → r ≡ r'
unique-inverse a = unique-equation

pub unique-power : (a k : ℕ) {r r' : ℕ} → r ≡ power a k → r' ≡ power a k → r ≡ r'
unique-power a k = unique-equation
