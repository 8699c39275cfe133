-- Determinants: the sum over the first column of entry times its cofactor; a cofactor is a smaller determinant. Signs vanish in this field.
-- Rests on Matrix.
use Rattle.std.specs.Prelude.{◌≡◌, refl, true, false, ℕ, zero, suc, ◌+◌, ◌<◌, ltb}
use Rattle.std.proofs.Common.{ap₂, arith}
use Rattle.ground.specs.Pick.{pick}
use Rattle.algebra.specs.Sum.{sum, sum-cong}
use Rattle.field.specs.Field.{add, mul}
use Rattle.field.specs.FieldRing.{field-ring}
use Rattle.matrix.specs.Matrix.{Matrix}
use Rattle.matrix.specs.Same.{Same}

-- row i of what is left when row r is struck out
unfoldable pub skip : ℕ → ℕ → ℕ
skip r i = pick (ltb i r) i (i + 1)

pub skip-lt : (r i n : ℕ) → i < n → skip r i < suc n
unfolding skip
skip-lt r i n h = elim (ltb i r) as (λ b. pick b i (i + 1) < suc n) [ true ↦ omega arith | false ↦ omega arith ]

-- M without row r and without the first column
unfoldable pub minor : Matrix → ℕ → Matrix
minor M r i j = M (skip r i) (j + 1)

-- the determinant of the n by n matrix M
unfoldable pub det : ℕ → Matrix → ℕ
det zero M = 1
det (suc n) M = sum 0 add (suc n) (λ r. mul (M r 0) (det n (minor M r)))

-- a determinant reads the entries inside n only
pub det-same : (n : ℕ) {M N : Matrix} → Same n M N → det n M ≡ det n N
unfolding det minor
det-same zero s = refl
det-same (suc n) {M} {N} s =
    sum-cong field-ring (suc n) (λ r h.
    ap₂ mul (s.at r 0 h (omega arith)) (det-same n (record { at = λ i j hi hj. s.at (skip r i) (j + 1) (skip-lt r i n hi) (omega arith) })))
