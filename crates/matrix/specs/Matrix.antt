-- l by l matrices over GF(16). A matrix is a function of row and column, counted from 0; products sum over k below l.
-- Entries outside l are never read by an entry inside, so nothing is said of them.
-- Rests on the field.
use Rattle.std.specs.Prelude.{ℕ}
use Rattle.algebra.specs.Sum.{sum}
use Rattle.field.specs.Field.{add, mul}

abbrev pub Matrix : Type 0
Matrix = ℕ → ℕ → ℕ

-- the zero matrix
abbrev pub zero_m : Matrix
zero_m r c = 0

-- M + N
unfoldable pub add_m : Matrix → Matrix → Matrix
add_m M N r c = add (M r c) (N r c)

-- M · N
unfoldable pub mul_m : ℕ → Matrix → Matrix → Matrix
mul_m l M N r c = sum 0 add l (λ k. mul (M r k) (N k c))

-- M transposed
unfoldable pub transpose : Matrix → Matrix
transpose M r c = M c r

-- a · M, for an element a
unfoldable pub scale_m : ℕ → Matrix → Matrix
scale_m a M r c = mul a (M r c)
