-- What the three public functions promise, for every size and every bytes: the refusal, or what is made where there is none.
-- Rests on Limits, on the two algorithms and on Determinant.
use Rattle.std.specs.Prelude.{List, ℕ, get_or, Result}
use Rattle.ground.specs.Fill.{tab}
use Rattle.ground.specs.Answers.{first, Gives}
use Rattle.ground.specs.declared.Refusal.{Refusal}
use Rattle.matrix.specs.RingElements.{algorithm1}
use Rattle.matrix.specs.Determinant.{det}
use Rattle.matrix.specs.Invertible.{algorithm2}
use Rattle.matrix.specs.Block.{view, block, block_bytes}
use Rattle.matrix.specs.Limits.{coefficient_rules, matrix_rules, invertible_rules}

-- the coefficients that an array holds
abbrev pub coefficients : List ℕ → ℕ → ℕ
coefficients a k = get_or a k 0

-- the block of zeros: 25 of them
unfoldable pub no_block : List ℕ
no_block = tab block_bytes (λ e. 0)

-- what a function that makes a block promises: the answer's number is the refusal's, and with 0 the result is there, whole: 0 outside l
abbrev pub Makes : (refusal : ℕ) (result : List ℕ) (r : Result (List ℕ) Refusal) → Type 0
Makes refusal result r = Gives refusal result r

-- `ring_element`: 10 and 23 exactly on their conditions, else Algorithm 1's element
abbrev pub RingElement : ℕ → List ℕ → Result (List ℕ) Refusal → Type 0
RingElement l a r = Makes (first (coefficient_rules l (coefficients a))) (block l (algorithm1 l (coefficients a))) r

-- `make_invertible`: 10, 23 and 21 exactly on their conditions, else what Algorithm 2 makes of the matrix
abbrev pub MadeInvertible : ℕ → List ℕ → Result (List ℕ) Refusal → Type 0
MadeInvertible l m r = Makes (first (invertible_rules l (view m))) (block l (algorithm2 l (view m))) r

-- `determinant_of`: 10 and 23 exactly on their conditions, else the determinant
abbrev pub DeterminantOf : ℕ → List ℕ → Result ℕ Refusal → Type 0
DeterminantOf l m r = Gives (first (matrix_rules l (view m))) (det l (view m)) r
