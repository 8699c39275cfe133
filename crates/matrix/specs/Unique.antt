-- No second outcome meets what a public function of this crate promises.
-- Rests on ground's Outcome.
use Rattle.std.specs.Prelude.{◌≡◌, List, ℕ, Result}
use Rattle.ground.specs.Pick.{pick}
use Rattle.ground.specs.AnswerLaws.{unique-gives}
use Rattle.ground.specs.declared.Refusal.{Refusal}
use Rattle.ground.specs.Outcome.{unique-equation}
use Rattle.matrix.specs.Matrix.{add_m, mul_m, transpose, scale_m}
use Rattle.matrix.specs.RingElements.{one_m, S, power_s, last_coefficient, coefficient, algorithm1}
use Rattle.matrix.specs.Determinant.{det}
use Rattle.matrix.specs.Block.{view, inside, block}
use Rattle.matrix.specs.Promises.{coefficients, Makes, RingElement, MadeInvertible, DeterminantOf}

-- ---- the functions for everybody

-- the refusal, or the block that was made
pub unique-makes : {n : ℕ} {result : List ℕ} {r r' : Result (List ℕ) Refusal} → Makes n result r → Makes n result r' → r ≡ r'
unique-makes = unique-gives

pub unique-ring-element : (l : ℕ) (a : List ℕ) {r r' : Result (List ℕ) Refusal} → RingElement l a r → RingElement l a r' → r ≡ r'
unique-ring-element l a = unique-makes

pub unique-make-invertible : (l : ℕ) (m : List ℕ) {r r' : Result (List ℕ) Refusal} → MadeInvertible l m r → MadeInvertible l m r' → r ≡ r'
unique-make-invertible l m = unique-makes

pub unique-determinant-of : (l : ℕ) (m : List ℕ) {r r' : Result ℕ Refusal} → DeterminantOf l m r → DeterminantOf l m r' → r ≡ r'
unique-determinant-of l m = unique-gives

-- ---- the functions for our own crates: each promises an equation with a definition

pub unique-entry : (m : List ℕ) (r c : ℕ) {x x' : ℕ} → x ≡ view m r c → x' ≡ view m r c → x ≡ x'
unique-entry m r c = unique-equation

pub unique-within : (l e x : ℕ) {r r' : ℕ} → r ≡ pick (inside l e) x 0 → r' ≡ pick (inside l e) x 0 → r ≡ r'
unique-within l e x = unique-equation

pub unique-product : (l : ℕ) (a b : List ℕ) {r r' : List ℕ} → r ≡ block l (mul_m l (view a) (view b)) → r' ≡ block l (mul_m l (view a) (view b)) → r ≡ r'
unique-product l a b = unique-equation

pub unique-plus : (l : ℕ) (a b : List ℕ) {r r' : List ℕ} → r ≡ block l (add_m (view a) (view b)) → r' ≡ block l (add_m (view a) (view b)) → r ≡ r'
unique-plus l a b = unique-equation

pub unique-scaled : (l s : ℕ) (a : List ℕ) {r r' : List ℕ} → r ≡ block l (scale_m s (view a)) → r' ≡ block l (scale_m s (view a)) → r ≡ r'
unique-scaled l s a = unique-equation

pub unique-transposed : (l : ℕ) (a : List ℕ) {r r' : List ℕ} → r ≡ block l (transpose (view a)) → r' ≡ block l (transpose (view a)) → r ≡ r'
unique-transposed l a = unique-equation

pub unique-s-matrix : (l : ℕ) {r r' : List ℕ} → r ≡ block l (S l) → r' ≡ block l (S l) → r ≡ r'
unique-s-matrix l = unique-equation

pub unique-one : (l : ℕ) {r r' : List ℕ} → r ≡ block l (one_m l) → r' ≡ block l (one_m l) → r ≡ r'
unique-one l = unique-equation

pub unique-s-power : (l k : ℕ) {r r' : List ℕ} → r ≡ block l (power_s l k) → r' ≡ block l (power_s l k) → r ≡ r'
unique-s-power l k = unique-equation

pub unique-coefficient : (l : ℕ) (a : List ℕ) (k : ℕ) {r r' : ℕ} → r ≡ coefficient l (coefficients a) k → r' ≡ coefficient l (coefficients a) k → r ≡ r'
unique-coefficient l a k = unique-equation

pub unique-last-coefficient : (own a0 : ℕ) {r r' : ℕ} → r ≡ last_coefficient own a0 → r' ≡ last_coefficient own a0 → r ≡ r'
unique-last-coefficient own a0 = unique-equation

pub unique-combination : (l : ℕ) (a : List ℕ) {r r' : List ℕ} → r ≡ block l (algorithm1 l (coefficients a)) → r' ≡ block l (algorithm1 l (coefficients a)) → r ≡ r'
unique-combination l a = unique-equation

pub unique-determinant : (n : ℕ) (m : List ℕ) {r r' : ℕ} → r ≡ det n (view m) → r' ≡ det n (view m) → r ≡ r'
unique-determinant n m = unique-equation
