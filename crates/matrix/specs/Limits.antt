-- What the public functions take: a size l within the limits that sets has, and elements 0 to 15.
-- Rests on ground's rules and tests, and on sets' limits.
use Rattle.std.specs.Prelude.{Bool, List, [], ◌∷◌, ℕ, ltb}
use Rattle.ground.specs.Tests.{every}
use Rattle.ground.specs.Answers.{Rule, unless}
use Rattle.ground.specs.declared.Refusal.TheVariants.{SetNotAllowed, NotInvertible, AboveFifteen}
use Rattle.sets.specs.Sets.{from_to, least_l, most_l}
use Rattle.matrix.specs.Matrix.{Matrix}
use Rattle.matrix.specs.Invertible.{can_be_invertible}

-- l is within the limits
unfoldable pub size_allowed : ℕ → Bool
size_allowed l = from_to least_l most_l l

-- every entry inside l is an element
unfoldable pub entries_allowed : ℕ → Matrix → Bool
entries_allowed l M = every l (λ r. every l (λ c. ltb (M r c) 16))

-- the first l coefficients are elements
unfoldable pub coefficients_allowed : ℕ → (ℕ → ℕ) → Bool
coefficients_allowed l a = every l (λ k. ltb (a k) 16)

-- what is refused of coefficients, of a matrix, and of a matrix that is to be made invertible: with an entry above 15 there is no matrix, and 21 is not asked
abbrev pub coefficient_rules : ℕ → (ℕ → ℕ) → List Rule
coefficient_rules l a = unless SetNotAllowed (size_allowed l) ∷ unless AboveFifteen (coefficients_allowed l a) ∷ []

abbrev pub matrix_rules : ℕ → Matrix → List Rule
matrix_rules l M = unless SetNotAllowed (size_allowed l) ∷ unless AboveFifteen (entries_allowed l M) ∷ []

abbrev pub invertible_rules : ℕ → Matrix → List Rule
invertible_rules l M = unless SetNotAllowed (size_allowed l) ∷ unless AboveFifteen (entries_allowed l M) ∷ unless NotInvertible (can_be_invertible l M) ∷ []
