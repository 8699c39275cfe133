-- What the rows of a table gain from a product of tables, the loops that add it row by row, and the blocks that it is.
-- A table is a rule for its rows; the code's tables are read by `rows_of`. Rests on rows' PlusRows, Gains and Entries.
use Rattle.std.specs.Prelude.{◌≡◌, refl, List, ℕ, ◌+◌, ◌*◌, ◌<◌, ◌≤◌, length}
use Rattle.std.proofs.Common.{subst, ◌∙◌, mul-le-mul_right, le-mul_of_pos_right, mul-pos, zero-add as zero-plus}
use Rattle.std.proofs.Math.Path.{sym, ap, ap₂}
use native.Mathlib.Omega.{arith}
use Rattle.std.proofs.Math.ListN.{get_or}
use Rattle.ground.specs.Place.{row_fits}
use Rattle.algebra.specs.Sum.{sum, sum-cong, sum-none, sum_more}
use Rattle.field.specs.Field.{add, mul}
use Rattle.field.specs.Laws.{mul-lt, add-zero}
use Rattle.field.specs.FieldRing.{field-ring, sum_lt}
use Rattle.matrix.specs.Matrix.{Matrix, mul_m, transpose}
use Rattle.scheme.specs.Streams.{block_of}
use Rattle.scheme.specs.Maps.{sum_m}
use Rattle.scheme.specs.Regroup.{products-entry, transposed-entry}
use Rattle.rows.specs.Zero.{zeros}
use Rattle.rows.specs.Plus.{Plus, plus-cong}
use Rattle.rows.specs.PlusRows.{PlusRows, rows_none, rows_next, rows-cong, rows_then, rows-zero-start}
use Rattle.rows.specs.Combine.{combination}
use Rattle.rows.specs.RowsJoin.{rows_end}
use Rattle.rows.specs.Tile.{tile, sum-blocks}
use Rattle.tables.specs.Table.{cleared}
use Rattle.tables.specs.Gains.{blocks_row}
use Rattle.tables.specs.Entries.{blocks-row-entry}

-- the m rows of n bytes of t, by their rule
pub record HasRows (m n : ℕ) (rule : ℕ → ℕ → ℕ) (t : List ℕ) : Type 0 where
  pub at : (r z : ℕ) → r < m → z < n → get_or t (r * n + z) 0 ≡ rule r z

-- the rows of a table, n bytes each
unfoldable pub rows_of : (n : ℕ) (s : List ℕ) → ℕ → ℕ → ℕ
rows_of n s r z = get_or s (r * n + z) 0

-- row y of the scalars, transposed, times the rows of a rule: the scalars are count rows of m bytes from byte `place` on
unfoldable pub transposed_gain : (scalars : List ℕ) (place m count : ℕ) (rule : ℕ → ℕ → ℕ) → ℕ → ℕ → ℕ
transposed_gain scalars place m count rule y z = sum 0 add count (λ s. mul (get_or scalars (place + y + s * m) 0) (rule s z))

-- row y of one table times the rows of another
unfoldable pub times_gain : (scalars : ℕ → ℕ → ℕ) (count : ℕ) (rule : ℕ → ℕ → ℕ) → ℕ → ℕ → ℕ
times_gain scalars count rule y z = sum 0 add count (λ s. mul (scalars y s) (rule s z))

-- the sum over j < v of block row j of x, in rows of m bytes, transposed, times block row j of the v by count blocks of the stream from block number on
unfoldable pub left_gain : (l v : ℕ) (x : List ℕ) (m : ℕ) (stream : List ℕ) (number count : ℕ) → ℕ → ℕ → ℕ
left_gain l v x m stream number count y z = sum 0 add v (λ j. transposed_gain x (j * (l * m)) m l (blocks_row l stream (number + j * count)) y z)

-- they are elements

pub times-lt : (scalars : ℕ → ℕ → ℕ) (count : ℕ) (rule : ℕ → ℕ → ℕ) (y z : ℕ) → times_gain scalars count rule y z < 16
unfolding times_gain
times-lt scalars count rule y z = sum_lt count (λ s h. mul-lt _ _)

pub left_lt : (l v : ℕ) (x : List ℕ) (m : ℕ) (stream : List ℕ) (number count y z : ℕ) → left_gain l v x m stream number count y z < 16
unfolding left_gain transposed_gain
left_lt l v x m stream number count y z = sum_lt v (λ j h. sum_lt l (λ s k. mul-lt _ _))

-- ---- the gains by the rules of their tables

pub transposed-cong : (scalars : List ℕ) (place m count : ℕ) (f g : ℕ → ℕ → ℕ) (y z : ℕ) → ((s : ℕ) → s < count → f s z ≡ g s z)
    → transposed_gain scalars place m count f y z ≡ transposed_gain scalars place m count g y z
unfolding transposed_gain
transposed-cong scalars place m count f g y z e = sum-cong field-ring count (λ s h. ap (mul (get_or scalars (place + y + s * m) 0)) (e s h))

pub times-cong : (count : ℕ) (f f' g g' : ℕ → ℕ → ℕ) (y z : ℕ) → ((s : ℕ) → s < count → f y s ≡ f' y s) → ((s : ℕ) → s < count → g s z ≡ g' s z)
    → times_gain f count g y z ≡ times_gain f' count g' y z
unfolding times_gain
times-cong count f f' g g' y z e h = sum-cong field-ring count (λ s b. ap₂ mul (e s b) (h s b))

pub rows-rule : {m n : ℕ} {rule : ℕ → ℕ → ℕ} {t : List ℕ} → HasRows m n rule t → (r z : ℕ) → r < m → z < n → rows_of n t r z ≡ rule r z
unfolding rows_of
rows-rule h = h.at

-- rows that a table of zeros gained are the table's rows
pub zero-rows : {d t : List ℕ} {m n : ℕ} {rule : ℕ → ℕ → ℕ} → ((k : ℕ) → get_or d k 0 ≡ 0) → PlusRows d 0 m n rule t → HasRows m n rule t
zero-rows {t = t} {n = n} {rule = rule} z p = record { at = λ r c hr hc. rw (zero-plus (r * n + c)) at (rows-zero-start p (λ k h. z (0 + k)) r c hr hc) }

pub zero-rows-from : (before : List ℕ) {d t : List ℕ} {m n : ℕ} {rule : ℕ → ℕ → ℕ} → d ≡ zeros (length before) → PlusRows d 0 m n rule t → HasRows m n rule t
zero-rows-from before e p = zero-rows (cleared before e) p

-- the same gains by the rule of a table that was loaded

pub transposed-loaded : (scalars : List ℕ) (place count : ℕ) {d t src : List ℕ} {at m n : ℕ} {rule : ℕ → ℕ → ℕ}
    → PlusRows d at m n (transposed_gain scalars place m count (rows_of n src)) t → HasRows count n rule src → PlusRows d at m n (transposed_gain scalars place m count rule) t
transposed-loaded scalars place count {src = src} {m = m} {n = n} {rule = rule} p h =
    rows-cong (λ r z hr hz. transposed-cong scalars place m count (rows_of n src) rule r z (λ s hs. rows-rule h s z hs hz)) p

pub times-loaded : (count : ℕ) (src : List ℕ) {d t scalars : List ℕ} {at m n : ℕ} {rule : ℕ → ℕ → ℕ}
    → PlusRows d at m n (times_gain (rows_of count scalars) count (rows_of n src)) t → HasRows m count rule scalars → PlusRows d at m n (times_gain rule count (rows_of n src)) t
times-loaded count src {scalars = scalars} {m = m} {n = n} {rule = rule} p h =
    rows-cong (λ r z hr hz. times-cong count (rows_of count scalars) rule (rows_of n src) (rows_of n src) r z (λ s hs. rows-rule h r s hr hs) (λ s hs. refl)) p

-- ---- loops over rows

pub record Adding (d : List ℕ) (at m n : ℕ) (f : ℕ → ℕ → ℕ) (y : ℕ) (t : List ℕ) : Type 0 where
  pub upto : y ≤ m
  pub so_far : PlusRows d at y n f t

pub adding-none : {d : List ℕ} {at m n : ℕ} {f : ℕ → ℕ → ℕ} → Adding d at m n f 0 d
adding-none = record { upto = omega arith; so_far = rows_none }

pub adding-next : {d t u : List ℕ} {at m n y : ℕ} {f : ℕ → ℕ → ℕ} → Adding d at m n f y t → y < m → Plus t (at + y * n) n (f y) u → Adding d at m n f (y + 1) u
adding-next p h q = record { upto = omega arith; so_far = rows_next p.so_far (omega arith) q }

-- the same, where the code's place is another expression
pub adding-next-at : {d t u : List ℕ} {at m n y place : ℕ} {f : ℕ → ℕ → ℕ} → Adding d at m n f y t → y < m → place ≡ at + y * n → Plus t place n (f y) u → Adding d at m n f (y + 1) u
adding-next-at p h e q = record { upto = omega arith; so_far = rows_next p.so_far e q }

pub adding-end : {d t : List ℕ} {at m n y : ℕ} {f : ℕ → ℕ → ℕ} → Adding d at m n f y t → m ≤ y → PlusRows d at m n f t
adding-end p h = rows_end p.so_far p.upto h

-- a row that gains a combination
pub transposed-row : {d t : List ℕ} {at n : ℕ} (scalars : List ℕ) (place m count : ℕ) (src : List ℕ) (y : ℕ)
    → Plus d at n (combination (λ x. get_or scalars (place + y + x * m) 0) src n 0 count) t → Plus d at n (transposed_gain scalars place m count (rows_of n src) y) t
unfolding transposed_gain rows_of
transposed-row {n = n} scalars place m count src y p = plus-cong (λ c h. sum-cong field-ring count (λ s hs.
    ap (λ r. mul (get_or scalars (place + y + s * m) 0) (get_or src (r * n + c) 0)) (zero-plus s))) p

pub times-row : {d t : List ℕ} {at n : ℕ} (scalars : List ℕ) (count : ℕ) (src : List ℕ) (y : ℕ)
    → Plus d at n (combination (λ x. get_or scalars (y * count + x * 1) 0) src n 0 count) t → Plus d at n (times_gain (rows_of count scalars) count (rows_of n src) y) t
unfolding times_gain rows_of
times-row {n = n} scalars count src y p = plus-cong (λ c h. sum-cong field-ring count (λ s hs.
    let one : s * 1 ≡ s = omega arith in
    ap₂ (λ q r. mul (get_or scalars (y * count + q) 0) (get_or src (r * n + c) 0)) one (zero-plus s))) p

-- ---- a loop over j that adds to the same rows

pub record Summing (d : List ℕ) (at m n v : ℕ) (g : ℕ → ℕ → ℕ → ℕ) (j : ℕ) (t : List ℕ) : Type 0 where
  pub upto : j ≤ v
  pub so_far : PlusRows d at m n (λ y z. sum 0 add j (λ k. g k y z)) t

pub summing-none : {d : List ℕ} {at m n v : ℕ} {g : ℕ → ℕ → ℕ → ℕ} → Summing d at m n v g 0 d
summing-none {d} {at} {m} {n} {v} {g} = record {
  upto = omega arith;
  so_far = record {
    long = refl;
    inside = λ r c h l. sym (ap (add (get_or d (at + (r * n + c)) 0)) (sum-none field-ring (λ k. g k r c)) ∙ add-zero _);
    low = λ k h. refl;
    high = λ k h. refl;
  };
}

pub summing-next : {d t u : List ℕ} {at m n v j : ℕ} {g : ℕ → ℕ → ℕ → ℕ} → Summing d at m n v g j t → j < v → PlusRows t at m n (g j) u → Summing d at m n v g (j + 1) u
summing-next {j = j} {g = g} p h q = record { upto = omega arith; so_far = rows-cong (λ r c hr hc. sym (sum_more field-ring j (λ k. g k r c))) (rows_then p.so_far q) }

pub summing-end : {d t : List ℕ} {at m n v j : ℕ} {g : ℕ → ℕ → ℕ → ℕ} → Summing d at m n v g j t → v ≤ j → PlusRows d at m n (λ y z. sum 0 add v (λ k. g k y z)) t
summing-end {d} {t} {at} {m} {n} {v} {j} {g} p h = let all : j ≡ v = omega (arith, p.upto) in rw all at p.so_far

-- ---- where a turn of that loop reads

-- block row j of the v by count blocks of a stream, and of a table x in rows of m bytes
pub record LeftTurn (l m number v count j : ℕ) : Type 0 where
  pub first : j * count + count ≤ v * count
  pub blocks : (number + j * count + count) * (l * l) ≤ (number + v * count) * (l * l)
  pub plain : number + v * count ≤ (number + v * count) * (l * l)
  pub table : j * (l * m) + l * m ≤ v * (l * m)

pub left-turn : (l m number v count : ℕ) {j : ℕ} → 0 < l → j < v → LeftTurn l m number v count j
left-turn l m number v count {j} hl h =
    let first = row_fits count h in
    let whole : number + j * count + count ≤ number + v * count = omega arith in
    record {
      first = first;
      blocks = mul-le-mul_right (l * l) whole;
      plain = le-mul_of_pos_right (number + v * count) (mul-pos hl hl);
      table = row_fits (l * m) h;
    }

-- a number that was computed, in the place of its definition
pub left_at : (l v : ℕ) (x : List ℕ) (m : ℕ) (stream : List ℕ) (count : ℕ) {number n at w : ℕ} {d t : List ℕ} → n ≡ number
    → PlusRows d at m w (left_gain l v x m stream n count) t → PlusRows d at m w (left_gain l v x m stream number count) t
left_at l v x m stream count {at = at} {w = w} {d = d} {t = t} e p = subst (λ k. PlusRows d at m w (left_gain l v x m stream k count) t) e p

-- ---- the gains by blocks

module _ (l : ℕ) {r c : ℕ} (hr : r < l) (hc : c < l) where
  pub times-blocks : (f : ℕ → ℕ → ℕ) (count n : ℕ) (t : List ℕ) (a k : ℕ) (X : ℕ → Matrix) → ((u x : ℕ) → u < count → x < l → f (a * l + r) (u * l + x) ≡ X u r x)
      → times_gain f (count * l) (rows_of n t) (a * l + r) (k * l + c) ≡ sum_m count (λ u. mul_m l (X u) (tile l n t u k)) r c
  unfolding times_gain rows_of tile
  times-blocks f count n t a k X e =
      sum-blocks field-ring count l (λ s. mul (f (a * l + r) s) (get_or t (s * n + (k * l + c)) 0))
      ∙ sum-cong field-ring count (λ u hu. sum-cong field-ring l (λ x hx. ap (λ p. mul p (get_or t ((u * l + x) * n + (k * l + c)) 0)) (e u x hu hx)))
      ∙ sym (products-entry l count X (λ u. tile l n t u k) r c)

  pub left-blocks : (v : ℕ) (x : List ℕ) (m : ℕ) (stream : List ℕ) (number count a k : ℕ)
      → left_gain l v x m stream number count (a * l + r) (k * l + c) ≡ sum_m v (λ j. mul_m l (transpose (tile l m x j a)) (block_of l stream (number + j * count + k))) r c
  unfolding left_gain transposed_gain tile
  left-blocks v x m stream number count a k =
      sum-cong field-ring v (λ j hj. sum-cong field-ring l (λ s hs.
      let place : j * (l * m) + (a * l + r) + s * m ≡ (j * l + s) * m + (a * l + r) = omega arith in
      ap₂ mul (ap (λ p. get_or x p 0) place) (blocks-row-entry l stream (number + j * count) s k hc)))
      ∙ sym (transposed-entry l v (λ j. tile l m x j a) (λ j. block_of l stream (number + j * count + k)) r c)
