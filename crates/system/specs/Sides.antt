-- One term of an equation: the blocks A·L·Q2 and Q1·R·B for each oil index, and what its rows of the system gain from them.
-- Rests on matrix's blocks, rows' PlusRows and tables' Sums.
use Rattle.std.specs.Prelude.{◌≡◌, List, ℕ, ◌+◌, ◌*◌, ◌/◌, ◌%◌, ◌<◌, ◌≤◌, ltb, length, get_or}
use Rattle.std.proofs.Common.{ap, ◌∙◌, mul-pos, mul-le-mul, le-mul_of_pos_right, div-lt_iff_lt-mul, mod-lt, zero-add as zero-plus, arith}
use Rattle.std.proofs.Math.Arith.{digits_lt}
use Rattle.ground.specs.Pick.{pick}
use Rattle.ground.specs.Place.{row_fits}
use Rattle.field.specs.Field.{add, mul}
use Rattle.field.specs.Laws.{one-mul}
use Rattle.rows.specs.Zero.{zeros}
use Rattle.rows.specs.Plus.{Plus, plus-cong, plus-then}
use Rattle.rows.specs.PlusRows.{PlusRows, rows-plus}
use Rattle.rows.specs.Tile.{tile}
use Rattle.algebra.specs.Sum.{sum-cong}
use Rattle.sets.specs.Sets.{most_o, most_l, most_row}
use Rattle.matrix.specs.Matrix.{Matrix, mul_m, scale_m}
use Rattle.matrix.specs.MatrixRing.{matrices}
use Rattle.matrix.specs.Same.{same_refl, same-trans, same-mul, mul_m-lt}
use Rattle.matrix.specs.Block.{view, block, block_same, holds, cell, cell_at, get_or-block, block_bytes, stride}
use Rattle.scheme.specs.Maps.{sum_m}
use Rattle.tables.specs.Sums.{HasRows, zero-rows-from}
use Rattle.matrix.specs.BlockRows.{widened}

-- rooms of the code's buffers: o blocks, and o·l² rows of l·stride bytes
abbrev pub sides_room : ℕ
sides_room = most_o * block_bytes

abbrev pub products_room : ℕ
products_room = most_row * (most_l * stride)

-- ---- blocks of a table, combined by coefficients q

unfoldable pub combined_from : (l : ℕ) (q : ℕ → ℕ) (table : List ℕ) (w row column down across : ℕ) → Matrix
combined_from l q table w row column down across = sum_m l (λ x. scale_m (q x) (tile l w table (row + x * down) (column + x * across)))

-- the sum reads the first l coefficients only
pub combined-cong : (l : ℕ) (table : List ℕ) (w row column down across : ℕ) {q q' : ℕ → ℕ} → ((x : ℕ) → x < l → q x ≡ q' x)
    → combined_from l q table w row column down across ≡ combined_from l q' table w row column down across
unfolding combined_from
combined-cong l table w row column down across e =
    sum-cong (matrices l) l (λ x h. ap (λ c. scale_m c (tile l w table (row + x * down) (column + x * across))) (e x h))

-- block (x, y) lies within the table, and so do its numbers
pub record TileFits (l w x y n : ℕ) : Type 0 where
  pub rows : (x + 1) * l * w ≤ n
  pub columns : (y + 1) * l ≤ w
  pub row : x + 1 ≤ n
  pub column : y + 1 ≤ w

pub tile-fits : {l w x y n : ℕ} → 0 < l → (x + 1) * l * w ≤ n → (y + 1) * l ≤ w → TileFits l w x y n
tile-fits {l} {w} {x} {y} {n} hl rows columns =
    let column : y + 1 ≤ w = omega (arith, le-mul_of_pos_right (y + 1) hl) in
    let positive : 0 < w = omega arith in
    record { rows = rows; columns = columns; row = omega (arith, le-mul_of_pos_right (x + 1) (mul-pos hl positive)); column = column }

-- ---- first · (combined) · last, for each k

unfoldable pub side_of : (l : ℕ) (F : Matrix) (q : ℕ → ℕ) (table : List ℕ) (w row down across : ℕ) (L : Matrix) (k : ℕ) → Matrix
side_of l F q table w row down across L k = mul_m l F (mul_m l (combined_from l q table w (row + k * across) (k * down) down across) L)

-- the blocks stand one after the other
pub record Sides (l count : ℕ) (M : ℕ → Matrix) (t : List ℕ) : Type 0 where
  pub at : (k r c : ℕ) → k < count → r < l → c < l → get_or t (k * block_bytes + (r * stride + c)) 0 ≡ M k r c

-- byte z of block k, as it is added to a cleared table
abbrev pub side_row : (l : ℕ) (M : ℕ → Matrix) → ℕ → ℕ → ℕ
side_row l M k z = mul 1 (cell l (M k) z)

pub side-row : {l : ℕ} → l ≤ stride → (first last : List ℕ) (q : ℕ → ℕ) (table : List ℕ) (w row down across : ℕ) (k : ℕ) {d t middle right side : List ℕ} {at : ℕ}
    → middle ≡ block l (combined_from l q table w (row + k * across) (k * down) down across) → right ≡ block l (mul_m l (view middle) (view last))
    → side ≡ block l (mul_m l (view first) (view right))
    → Plus d at block_bytes (λ c. mul 1 (get_or side (0 + c) 0)) t → Plus d at block_bytes (side_row l (side_of l (view first) q table w row down across (view last)) k) t
unfolding side_of
side-row {l} small first last q table w row down across k {side = side} m r s p =
    let whole : side ≡ block l (mul_m l (view first) (mul_m l (combined_from l q table w (row + k * across) (k * down) down across) (view last))) =
    s ∙ block_same (same-mul same_refl (same-trans (holds small r) (same-mul (holds small m) same_refl))) in
    plus-cong (λ z h. ap (mul 1) (ap (λ i. get_or side i 0) (zero-plus z) ∙ ap (λ b. get_or b z 0) whole ∙ get_or-block l _ z h)) p

pub sides-filled : {l count : ℕ} → l ≤ stride → (F : Matrix) (q : ℕ → ℕ) (table : List ℕ) (w row down across : ℕ) (L : Matrix) (before : List ℕ) {d t : List ℕ}
    → d ≡ zeros (length before) → PlusRows d 0 count block_bytes (side_row l (side_of l F q table w row down across L)) t → Sides l count (side_of l F q table w row down across L) t
unfolding side_of
sides-filled {l} {count} small F q table w row down across L before z p = record {
  at = λ k r c hk hr hc.
      let all : HasRows count block_bytes (side_row l (side_of l F q table w row down across L)) _ = zero-rows-from before z p in
      all.at k (r * stride + c) hk (omega arith) ∙ ap (mul 1) (cell_at l _ r c small hr hc) ∙ one-mul _ (mul_m-lt l F _ r c);
}

-- ---- the products of the blocks' entries and a matrix

-- row z = (k·l + r)·l + y: entry (r, y) of block k times the bytes of a block
unfoldable pub outer_row : (l : ℕ) (sides m : List ℕ) → ℕ → ℕ → ℕ
outer_row l sides m z e = mul (get_or sides (z / l / l * block_bytes + (z / l % l * stride + z % l)) 0) (get_or m e 0)

pub outer-row : (l : ℕ) (sides m : List ℕ) (z : ℕ) {d t : List ℕ} {at n : ℕ}
    → Plus d at n (λ e. mul (get_or sides (z / l / l * block_bytes + (z / l % l * stride + z % l)) 0) (get_or m (0 + e) 0)) t → Plus d at n (outer_row l sides m z) t
unfolding outer_row
outer-row l sides m z p = plus-cong (λ e h. ap (λ x. mul (get_or sides (z / l / l * block_bytes + (z / l % l * stride + z % l)) 0) (get_or m x 0)) (zero-plus e)) p

-- ---- what a row gains

-- unknown (k; y, b) of the row of entry (r, c), with q = k·l + y: from row (k, r, y) of the left products and row (k, y, c) of the right products
unfoldable pub cell_gain : (l : ℕ) (lefts rights : List ℕ) (r c : ℕ) → ℕ → ℕ → ℕ
cell_gain l lefts rights r c q b =
    add (mul 1 (get_or lefts (((q / l * l + r) * l + q % l) * (l * stride) + c * stride + b) 0)) (mul 1 (get_or rights ((q * l + c) * (l * stride) + r * stride + b) 0))

pub cell_row : (l : ℕ) (lefts rights : List ℕ) (r c q : ℕ) {d t u : List ℕ} {at : ℕ}
    → Plus d at l (λ b. mul 1 (get_or lefts (((q / l * l + r) * l + q % l) * (l * stride) + c * stride + b) 0)) t
    → Plus t at l (λ b. mul 1 (get_or rights ((q * l + c) * (l * stride) + r * stride + b) 0)) u → Plus d at l (cell_gain l lefts rights r c q) u
unfolding cell_gain
cell_row l lefts rights r c q p s = plus-then p s

-- row e = r·l + c of an equation, column z: the unknowns, and nothing in the last column
unfoldable pub row_gain : (l count : ℕ) (lefts rights : List ℕ) → ℕ → ℕ → ℕ
row_gain l count lefts rights e z = pick (ltb z (count * l * l)) (cell_gain l lefts rights (e / l) (e % l) (z / l) (z % l)) 0

pub row-widened : (l count : ℕ) (lefts rights : List ℕ) (e : ℕ) {d t : List ℕ} {at : ℕ}
    → PlusRows d at (count * l) l (cell_gain l lefts rights (e / l) (e % l)) t → Plus d at (count * l * l + 1) (row_gain l count lefts rights e) t
unfolding row_gain
row-widened l count lefts rights e p = widened (omega arith) (rows-plus p)

-- ---- places

pub record OuterTurn (l count z : ℕ) : Type 0 where
  pub row : z * (l * stride) + l * stride ≤ count * l * l * (l * stride)
  pub block : z / l / l * block_bytes + block_bytes ≤ count * block_bytes
  pub high : z / l % l < l
  pub low : z % l < l
  pub plain : count * l * l ≤ count * l * l * (l * stride)

pub outer-turn : (l count : ℕ) {z : ℕ} → 0 < l → z < count * l * l → OuterTurn l count z
outer-turn l count {z} hl h =
    let wide : 0 < l * stride = omega arith in
    record {
      row = row_fits (l * stride) h;
      block = row_fits block_bytes ((div-lt_iff_lt-mul hl).1 ((div-lt_iff_lt-mul hl).1 h));
      high = mod-lt (z / l) hl;
      low = mod-lt z hl;
      plain = le-mul_of_pos_right (count * l * l) wide;
    }

pub record CellTurn (l count r c q : ℕ) : Type 0 where
  pub row : q * l + l ≤ count * l * l
  pub left : (q / l * l + r) * l + q % l < count * l * l
  pub left-row : ((q / l * l + r) * l + q % l) * (l * stride) + l * stride ≤ count * l * l * (l * stride)
  pub left-first : q / l * l + r ≤ (q / l * l + r) * l
  pub right-row : (q * l + c) * (l * stride) + l * stride ≤ count * l * l * (l * stride)
  pub plain : count * l * l ≤ count * l * l * (l * stride)

pub cell-turn : (l count r c : ℕ) {q : ℕ} → 0 < l → r < l → c < l → q < count * l → CellTurn l count r c q
cell-turn l count r c {q} hl hr hc h =
    let wide : 0 < l * stride = omega arith in
    let left = digits_lt (digits_lt ((div-lt_iff_lt-mul hl).1 h) hr) (mod-lt q hl) in
    record {
      row = row_fits l h;
      left = left;
      left-row = row_fits (l * stride) left;
      left-first = le-mul_of_pos_right (q / l * l + r) hl;
      right-row = row_fits (l * stride) (digits_lt h hc);
      plain = le-mul_of_pos_right (count * l * l) wide;
    }

pub record RowTurn (l width e : ℕ) : Type 0 where
  pub row : e * width + width ≤ l * l * width
  pub high : e / l < l
  pub low : e % l < l
  pub square : l * l ≤ stride * stride

pub row-turn : (l width : ℕ) {e : ℕ} → 0 < l → l ≤ stride → e < l * l → RowTurn l width e
row-turn l width {e} hl small h = record { row = row_fits width h; high = (div-lt_iff_lt-mul hl).1 h; low = mod-lt e hl; square = mul-le-mul small small }
