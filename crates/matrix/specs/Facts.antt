-- Page 01's examples on matrices, proved from the definitions by computing them.
-- Rests on RingElements, Determinant and Invertible.
use Rattle.std.specs.Prelude.{◌≡◌, refl, List, [], ◌∷◌, ℕ, ◌+◌, ◌*◌, ◌/◌, ◌%◌, get_or}
use Rattle.ground.specs.Fill.{tab}
use Rattle.algebra.specs.Sum.{sum}
use Rattle.algebra.specs.Powers.{power, polynomial}
use Rattle.field.specs.Field.{add, times, mul}
use Rattle.matrix.specs.Matrix.{Matrix, zero_m, add_m, mul_m, scale_m}
use Rattle.matrix.specs.RingElements.{one_m, S, power_s, coefficient, algorithm1}
use Rattle.matrix.specs.Determinant.{skip, minor, det}
use Rattle.matrix.specs.Invertible.{invertible, shift, first_from, shift_of, algorithm2}

-- the entries of an l by l matrix, row by row; and the matrix and the coefficients that a list gives
unfoldable pub entries_of : ℕ → Matrix → List ℕ
unfolding tab
entries_of l M = tab (l * l) (λ e. M (e / l) (e % l))

unfoldable pub matrix_of : ℕ → List ℕ → Matrix
matrix_of l s r c = get_or s (r * l + c) 0

abbrev pub coefficients_of : List ℕ → ℕ → ℕ
coefficients_of s k = get_or s k 0

-- l = 2: S, its square, its determinant
pub S-for-2 : entries_of 2 (S 2) ≡ 8 ∷ 7 ∷ 7 ∷ 6 ∷ []
unfolding entries_of S
S-for-2 = refl

pub square-for-2 : entries_of 2 (power_s 2 2) ≡ 10 ∷ 12 ∷ 12 ∷ 1 ∷ []
unfolding entries_of S one_m power mul_m sum add mul times
square-for-2 = refl

pub det-for-2 : det 2 (S 2) ≡ 3
unfolding det minor skip S sum add mul times
det-for-2 = refl

-- l = 4: the first row of S squared
pub square-for-4 : (power_s 4 2 0 0 ≡ 15) × (power_s 4 2 0 1 ≡ 6) × (power_s 4 2 0 2 ≡ 9) × (power_s 4 2 0 3 ≡ 1)
unfolding S one_m power mul_m sum add mul times
square-for-4 = (refl, refl, refl, refl)

-- Algorithm 1, l = 2
pub algorithm1-0-0 : entries_of 2 (algorithm1 2 (coefficients_of (0 ∷ 0 ∷ []))) ≡ 1 ∷ 11 ∷ 11 ∷ 4 ∷ []
unfolding entries_of polynomial coefficient scale_m S one_m power mul_m add_m sum add mul times
algorithm1-0-0 = refl

pub algorithm1-3-0 : entries_of 2 (algorithm1 2 (coefficients_of (3 ∷ 0 ∷ []))) ≡ 1 ∷ 5 ∷ 5 ∷ 11 ∷ []
unfolding entries_of polynomial coefficient scale_m S one_m power mul_m add_m sum add mul times
algorithm1-3-0 = refl

pub algorithm1-15-0 : entries_of 2 (algorithm1 2 (coefficients_of (15 ∷ 0 ∷ []))) ≡ 7 ∷ 7 ∷ 7 ∷ 9 ∷ []
unfolding entries_of polynomial coefficient scale_m S one_m power mul_m add_m sum add mul times
algorithm1-15-0 = refl

-- Algorithm 2, l = 2: the zero matrix becomes S
pub algorithm2-zero : entries_of 2 (algorithm2 2 zero_m) ≡ 8 ∷ 7 ∷ 7 ∷ 6 ∷ []
unfolding entries_of algorithm2 shift_of first_from invertible shift det minor skip scale_m S add_m sum add mul times
algorithm2-zero = refl

-- (9 0; 0 0) becomes (10 14; 14 12), since a = 1 fails
pub algorithm2-9 : entries_of 2 (algorithm2 2 (matrix_of 2 (9 ∷ 0 ∷ 0 ∷ 0 ∷ []))) ≡ 10 ∷ 14 ∷ 14 ∷ 12 ∷ []
unfolding entries_of matrix_of algorithm2 shift_of first_from invertible shift det minor skip scale_m S add_m sum add mul times
algorithm2-9 = refl

pub one-fails-for-9 : det 2 (shift 2 (matrix_of 2 (9 ∷ 0 ∷ 0 ∷ 0 ∷ [])) 1) ≡ 0
unfolding matrix_of shift det minor skip scale_m S add_m sum add mul times
one-fails-for-9 = refl
