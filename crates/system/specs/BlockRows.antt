-- The rows of a block gain those of a table's blocks, times their factors.
-- Rests on matrix's rows of blocks.
use Rattle.std.specs.Prelude.{◌≡◌, refl, Bool, true, false, List, ℕ, ◌+◌, ◌*◌, ◌<◌, ◌≤◌, ltb, get_or}
use Rattle.std.proofs.Common.{sym, ap, le-mul_of_pos_right, arith}
use Rattle.ground.specs.Pick.{pick}
use Rattle.ground.specs.Place.{row_fits}
use Rattle.algebra.specs.Sum.{sum, sum_zeros}
use Rattle.field.specs.Field.{add, mul}
use Rattle.field.specs.FieldRing.{field-ring}
use Rattle.rows.specs.Zero.{zeros}
use Rattle.rows.specs.Plus.{Plus, plus-cong}
use Rattle.rows.specs.PlusRows.{PlusRows, rows-cong}
use Rattle.rows.specs.Tile.{tile}
use Rattle.matrix.specs.Matrix.{Matrix, scale_m}
use Rattle.matrix.specs.Same.{sum-entry}
use Rattle.matrix.specs.Block.{block, block_bytes, stride}
use Rattle.matrix.specs.BlockRows.{block_row, block-row, block-filled}
use Rattle.scheme.specs.Maps.{sum_m}

-- row r of a block of a table, times a factor
pub tile-row : (l w : ℕ) (table : List ℕ) (j k r factor : ℕ) {d t : List ℕ} {at : ℕ} → l ≤ stride
    → Plus d at l (λ c. mul factor (get_or table ((j * l + r) * w + k * l + c) 0)) t → Plus d at stride (block_row l (scale_m factor (tile l w table j k)) r) t
unfolding scale_m tile
tile-row l w table j k r factor small p =
    block-row {r = r} (scale_m factor (tile l w table j k)) small
    (plus-cong (λ c h. let place : (j * l + r) * w + k * l + c ≡ (j * l + r) * w + (k * l + c) = omega arith in ap (λ x. mul factor (get_or table x 0)) place) p)

-- a row of a sum of matrices
block-sum : (l n : ℕ) (g : ℕ → Matrix) (r c : ℕ) → sum 0 add n (λ x. block_row l (g x) r c) ≡ block_row l (sum_m n g) r c
unfolding block_row
block-sum l n g r c = by (ltb c l)
  where
    by : (b : Bool) → sum 0 add n (λ x. pick b (g x r c) 0) ≡ pick b (sum_m n g r c) 0
    by true = sym (sum-entry n g r c)
    by false = sum_zeros field-ring n (λ k h. refl)

pub block-summed : {l : ℕ} (n : ℕ) (g : ℕ → Matrix) {t : List ℕ} → PlusRows (zeros block_bytes) 0 l stride (λ r c. sum 0 add n (λ x. block_row l (g x) r c)) t → t ≡ block l (sum_m n g)
block-summed {l} n g p = block-filled (sum_m n g) (rows-cong (λ r c hr hc. block-sum l n g r c) p)

-- ---- places

-- row r of block (j, k) lies within a table of n bytes in rows of w, and nothing that its place is made of is larger
pub record RowFits (l w j k r n : ℕ) : Type 0 where
  pub row : j * l + r ≤ (j * l + r) * w
  pub place : (j * l + r) * w + k * l + l ≤ n

pub row_within : {l w j k r n : ℕ} → (j + 1) * l * w ≤ n → (k + 1) * l ≤ w → r < l → RowFits l w j k r n
row_within {l} {w} {j} {k} {r} rows columns h =
    let positive : 0 < w = omega arith in
    let below : j * l + r < (j + 1) * l = omega arith in
    record { row = le-mul_of_pos_right (j * l + r) positive; place = omega (arith, row_fits w below) }
