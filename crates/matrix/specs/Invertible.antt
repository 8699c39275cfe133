-- Algorithm 2: a matrix with nonzero determinant stays; otherwise it becomes M + a·S for the first a from 1 to 15 that gives a nonzero determinant.
-- Always from the original M. Rests on Determinant and RingElements.
use Rattle.std.specs.Prelude.{Bool, not, ℕ, zero, suc, ◌+◌, eqb, ltb}
use Rattle.ground.specs.Pick.{pick}
use Rattle.matrix.specs.Matrix.{Matrix, add_m, scale_m}
use Rattle.matrix.specs.RingElements.{S}
use Rattle.matrix.specs.Determinant.{det}

-- the determinant is not 0
unfoldable pub invertible : ℕ → Matrix → Bool
invertible l M = not (eqb (det l M) 0)

-- M + a·S
unfoldable pub shift : ℕ → Matrix → ℕ → Matrix
shift l M a = add_m M (scale_m a (S l))

-- the first of the n numbers from a on whose shift of M is invertible, or 16 where none is
unfoldable pub first_from : ℕ → Matrix → ℕ → ℕ → ℕ
first_from l M zero a = 16
first_from l M (suc n) a = pick (invertible l (shift l M a)) a (first_from l M n (a + 1))

-- the a of Algorithm 2: 0 where M stays, 16 where no a serves
unfoldable pub shift_of : ℕ → Matrix → ℕ
shift_of l M = pick (invertible l M) 0 (first_from l M 15 1)

-- refusal 21 does not apply
unfoldable pub can_be_invertible : ℕ → Matrix → Bool
can_be_invertible l M = ltb (shift_of l M) 16

-- what Algorithm 2 makes of M (a shift by 0 changes nothing)
unfoldable pub algorithm2 : ℕ → Matrix → Matrix
algorithm2 l M = shift l M (shift_of l M)
