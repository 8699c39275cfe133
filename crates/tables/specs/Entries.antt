-- What the rows that a table gains are in blocks: the entries of page 01's sums of products.
-- Rests on Table and Gains, and on scheme's entries of such sums.
use Rattle.std.specs.Prelude.{◌≡◌, List, ℕ, ◌+◌, ◌*◌, ◌/◌, ◌%◌, ◌<◌, ◌≤◌}
use Rattle.std.proofs.Common.{sym, ap, ◌∙◌, arith}
use Rattle.std.proofs.Math.Arith.{digits_div, digits_mod}
use Rattle.algebra.specs.Sum.{sum-cong}
use Rattle.field.specs.Field.{mul}
use Rattle.field.specs.FieldRing.{field-ring}
use Rattle.packing.proofs.Laws.{element-lt}
use Rattle.matrix.specs.Matrix.{Matrix, mul_m}
use Rattle.scheme.specs.Streams.{block_of}
use Rattle.scheme.specs.Maps.{sum_m}
use Rattle.scheme.specs.Regroup.{products-entry}
use Rattle.rows.specs.Tile.{tile}
use Rattle.tables.specs.Table.{Holds}
use Rattle.tables.specs.Gains.{blocks_row, product_row}

-- a row of blocks, at column c of its block k
pub blocks-row-entry : (l : ℕ) (stream : List ℕ) (number r k : ℕ) {c : ℕ} → c < l → blocks_row l stream number r (k * l + c) ≡ block_of l stream (number + k) r c
unfolding blocks_row
blocks-row-entry l stream number r k h = rw (digits_div k h, digits_mod k h)

pub blocks-row-lt : (l : ℕ) (stream : List ℕ) (number r z : ℕ) → blocks_row l stream number r z < 16
unfolding blocks_row block_of
blocks-row-lt l stream number r z = element-lt stream ((number + z / l) * (l * l) + (r * l + z % l))

-- a row of products with the block rows first, .. , first + count - 1 of a table that holds N
pub product-row-entry : {l w a b : ℕ} {src : List ℕ} {N : ℕ → ℕ → Matrix} → Holds l w a b src N → (stream : List ℕ) (number r count first : ℕ) → first + count ≤ a
    → {k c : ℕ} → k < b → c < l
    → product_row l stream number r count src w first (k * l + c) ≡ sum_m count (λ j. mul_m l (block_of l stream (number + j)) (N (first + j) k)) r c
unfolding product_row tile
product-row-entry {l} {w} {a} {b} {src} {N} h stream number r count first fits {k} {c} hk hc =
    sum-cong field-ring count (λ j hj. sum-cong field-ring l (λ x hx.
    ap (mul (block_of l stream (number + j) r x)) ((h.same (first + j) k (omega arith) hk).at x c hx hc)))
    ∙ sym (products-entry l count (λ j. block_of l stream (number + j)) (λ j. N (first + j) k) r c)
