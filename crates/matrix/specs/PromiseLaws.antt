-- What the rules say once they are all met, and which of them decides.
-- Rests on Limits.
use Rattle.std.specs.Prelude.{◌≡◌, refl, Bool, true, false, List, [], ◌∷◌, ℕ}
use Rattle.ground.specs.Pick.{pick}
use Rattle.ground.specs.Answers.{unless, first, first-stands}
use Rattle.ground.specs.declared.Refusal.TheVariants.{SetNotAllowed, AboveFifteen, NotInvertible}
use Rattle.ground.specs.AnswerLaws.{code-some}
use Rattle.ground.specs.declared.Refusal.{Refusal}
use Rattle.matrix.specs.Matrix.{Matrix}
use Rattle.matrix.specs.Invertible.{can_be_invertible}
use Rattle.matrix.specs.Limits.{size_allowed, entries_allowed, coefficients_allowed, coefficient_rules, matrix_rules, invertible_rules}

-- two rules are met where no refusal is left
two-met : (n m : Refusal) (a b : Bool) → first (unless n a ∷ unless m b ∷ []) ≡ 0 → (a ≡ true) × (b ≡ true)
unfolding first
two-met n m true true e = (refl, refl)
two-met n m true false e = absurd (code-some m e)
two-met n m false b e = absurd (code-some n e)

pub matrix-met : (l : ℕ) (M : Matrix) → first (matrix_rules l M) ≡ 0 → (size_allowed l ≡ true) × (entries_allowed l M ≡ true)
matrix-met l M = two-met SetNotAllowed AboveFifteen (size_allowed l) (entries_allowed l M)

pub coefficients-met : (l : ℕ) (a : ℕ → ℕ) → first (coefficient_rules l a) ≡ 0 → (size_allowed l ≡ true) × (coefficients_allowed l a ≡ true)
coefficients-met l a = two-met SetNotAllowed AboveFifteen (size_allowed l) (coefficients_allowed l a)

-- 21 is asked only of a matrix that is not refused by 10 or 23
pub invertible-asked : (l : ℕ) (M : Matrix) → first (matrix_rules l M) ≡ 0 → first (invertible_rules l M) ≡ pick (can_be_invertible l M) 0 21
unfolding first
invertible-asked l M e = let met = matrix-met l M e in rw (met.0, met.1)

pub invertible-stands : (l : ℕ) (M : Matrix) → (first (matrix_rules l M) ≡ 0 → ⊥) → first (invertible_rules l M) ≡ first (matrix_rules l M)
invertible-stands l M n = first-stands (matrix_rules l M) (unless NotInvertible (can_be_invertible l M) ∷ []) n
