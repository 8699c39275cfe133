-- What a row of a table gains from blocks of a packed stream: the blocks' own row, or that row of a sum of products with a table's block rows.
-- Rests on scheme's blocks and rows' combinations.
use Rattle.std.specs.Prelude.{◌≡◌, List, ℕ, ◌+◌, ◌*◌, ◌/◌, ◌%◌, ◌<◌, ◌≤◌, get_or}
use Rattle.std.proofs.Common.{ap, subst, ◌∙◌, mul-le-mul_right, arith}
use Rattle.algebra.specs.Sum.{sum}
use Rattle.field.specs.Field.{add, mul}
use Rattle.packing.specs.Packing.{element}
use Rattle.scheme.specs.Streams.{block_of}
use Rattle.rows.specs.Plus.{Plus, plus-cong}
use Rattle.rows.specs.PlusRows.{PlusRows, rows_none, rows_next, rows-plus}

-- row r of the blocks number, number + 1, .. , side by side: column z
unfoldable pub blocks_row : (l : ℕ) (stream : List ℕ) (number r : ℕ) → ℕ → ℕ
blocks_row l stream number r z = block_of l stream (number + z / l) r (z % l)

-- row r of block number + k times block row first + k of the table src, with rows of n bytes: column z
abbrev pub product_term : (l : ℕ) (stream : List ℕ) (number r : ℕ) (src : List ℕ) (n first k : ℕ) → ℕ → ℕ
product_term l stream number r src n first k z = sum 0 add l (λ x. mul (block_of l stream (number + k) r x) (get_or src (((first + k) * l + x) * n + z) 0))

-- row r of the sum over k < count of these products: column z
unfoldable pub product_row : (l : ℕ) (stream : List ℕ) (number r count : ℕ) (src : List ℕ) (n first : ℕ) → ℕ → ℕ
product_row l stream number r count src n first z = sum 0 add count (λ k. product_term l stream number r src n first k z)

-- where row r of a block begins
abbrev pub row_start : (l number r : ℕ) → ℕ
row_start l number r = number * (l * l) + r * l

-- an element of row r of a block
pub row-element : (l : ℕ) (stream : List ℕ) (number r c : ℕ) → element stream (row_start l number r + c) ≡ block_of l stream number r c
unfolding block_of
row-element l stream number r c =
    let place : number * (l * l) + r * l + c ≡ number * (l * l) + (r * l + c) = omega arith in
    ap (element stream) place

-- row r of block number + k lies within the stream of blocks
pub row-within-stream : (l number : ℕ) {count k r : ℕ} → k < count → r < l → row_start l (number + k) r + l ≤ (number + count) * (l * l)
row-within-stream l number {count} {k} {r} hk hr =
    let whole : number + k + 1 ≤ number + count = omega arith in
    let row : r + 1 ≤ l = omega arith in
    omega (arith, mul-le-mul_right (l * l) whole, mul-le-mul_right l row)

-- ---- a loop that adds one block's row after the other

pub record Rowing (d : List ℕ) (at : ℕ) (stream : List ℕ) (number l r count k : ℕ) (t : List ℕ) : Type 0 where
  pub upto : k ≤ count
  pub so_far : PlusRows d at k l (λ j. block_of l stream (number + j) r) t

pub rowing-none : {d : List ℕ} {at : ℕ} {stream : List ℕ} {number l r count : ℕ} → Rowing d at stream number l r count 0 d
rowing-none = record { upto = omega arith; so_far = rows_none }

pub rowing-next : {d t u : List ℕ} {at : ℕ} {stream : List ℕ} {number l r count k place from : ℕ} → Rowing d at stream number l r count k t → k < count
    → place ≡ at + k * l → from ≡ row_start l (number + k) r → Plus t place l (λ c. element stream (from + c)) u → Rowing d at stream number l r count (k + 1) u
rowing-next {stream = stream} {number} {l} {r} {k = k} p h place_is from_is q = record {
  upto = omega arith;
  so_far = rows_next p.so_far place_is (plus-cong (λ c hc. ap (λ x. element stream (x + c)) from_is ∙ row-element l stream (number + k) r c) q);
}

pub rowing-end : {d t : List ℕ} {at : ℕ} {stream : List ℕ} {number l r count k : ℕ} → Rowing d at stream number l r count k t → count ≤ k
    → Plus d at (count * l) (blocks_row l stream number r) t
unfolding blocks_row
rowing-end {d} {t} {at} {stream} {number} {l} {r} p h =
    subst (λ n. Plus d at (n * l) (λ z. block_of l stream (number + z / l) r (z % l)) t) (omega (arith, p.upto)) (rows-plus p.so_far)
