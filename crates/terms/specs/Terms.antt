-- A map's equation from a table of its power sums, which holds in block row i'·l + x and block column y the sum for matrix index i' and powers x and y;
-- and what such a table gains for one j. Rests on scheme's maps and rows' blocks of a table.
use Rattle.std.specs.Prelude.{List, ℕ, ◌+◌, ◌*◌, get_or}
use Rattle.algebra.specs.Sum.{sum}
use Rattle.field.specs.Field.{add, mul}
use Rattle.rows.specs.Tile.{tile}
use Rattle.sets.specs.declared.Set.{Set}
use Rattle.sets.specs.Sets.{terms}
use Rattle.matrix.specs.Matrix.{Matrix, mul_m, scale_m}
use Rattle.matrix.specs.Block.{view}
use Rattle.matrix.specs.Promises.{coefficients}
use Rattle.streams.specs.declared.Term.{Term}
use Rattle.scheme.specs.Streams.{A, B}
use Rattle.scheme.specs.Maps.{sum_m, matrix_index}
use Rattle.scheme.specs.Regroup.{q1_of, q2_of}

-- what stands between A and B: the sum over x, y < l of a(x)·b(y) times block (index·l + x, y) of the table
unfoldable pub gathered_from : (l : ℕ) (a b : ℕ → ℕ) (sums : List ℕ) (index : ℕ) → Matrix
gathered_from l a b sums index = sum_m l (λ x. sum_m l (λ y. scale_m (a x) (scale_m (b y) (tile l (l * l) sums (index * l + x) y))))

-- the value of a term that was read
unfoldable pub term_with : (l : ℕ) (t : Term) (sums : List ℕ) → Matrix
term_with l t sums = mul_m l (view t.a) (mul_m l (gathered_from l (coefficients t.q1) (coefficients t.q2) sums t.index) (view t.b))

-- term alpha of equation i
unfoldable pub term_from : (set : Set) (abq sums : List ℕ) (i alpha : ℕ) → Matrix
term_from set abq sums i alpha =
    mul_m set.l (A set abq i alpha)
    (mul_m set.l (gathered_from set.l (q1_of set abq i alpha) (q2_of set abq i alpha) sums (matrix_index set i alpha)) (B set abq i alpha))

-- equation i: the sum over alpha
abbrev pub equation_from : (set : Set) (abq sums : List ℕ) (i : ℕ) → Matrix
equation_from set abq sums i = sum_m (terms set) (λ alpha. term_from set abq sums i alpha)

-- what row `row` of one matrix index's l·l rows gains for one j, in column z: block row j of the power table w, transposed, times the l rows of y
abbrev pub power_gain : (l : ℕ) (w : List ℕ) (j : ℕ) (y : List ℕ) → ℕ → ℕ → ℕ
power_gain l w j y row z = sum 0 add l (λ a. mul (get_or w ((j * l + a) * (l * l) + row) 0) (get_or y (a * (l * l) + z) 0))
