-- How a table comes to hold power sums: for one matrix index the loop over j adds (S^x·Uj)ᵗ times the sum over k of M(j,k)·S^y·Uk, for all x and y at once;
-- and index after index the table is filled. Rests on rows' PlusRows and on scheme's power sums.
use Rattle.std.specs.Prelude.{◌≡◌, refl, List, ℕ, ◌+◌, ◌*◌, ◌/◌, ◌%◌, ◌<◌, ◌≤◌}
use Rattle.std.proofs.Math.Path.{sym, ap, ap₂}
use Rattle.std.proofs.Common.{◌∙◌, not-suc-le-zero, mul-zero, mod-lt, div-lt_iff_lt-mul, div-add-mod', arith}
use Rattle.std.proofs.Math.Decide.{dec_lt}
use Rattle.std.proofs.Math.Arith.{digits_lt, digits_div, digits_mod}
use Rattle.std.proofs.Math.ListN.{get_or}
use Rattle.algebra.specs.Sum.{sum-cong, sum-none, sum_more}
use Rattle.field.specs.Field.{add, mul}
use Rattle.field.specs.Laws.{add-zero}
use Rattle.field.specs.FieldRing.{field-ring}
use Rattle.rows.specs.PlusRows.{PlusRows, rows-cong, rows_then, rows-zero-start}
use Rattle.rows.specs.Tile.{tile, tile-is}
use Rattle.matrix.specs.Matrix.{Matrix, add_m, mul_m, transpose}
use Rattle.matrix.specs.MatrixRing.{matrices}
use Rattle.matrix.specs.Same.{Same}
use Rattle.scheme.specs.Maps.{sum_m}
use Rattle.scheme.specs.Regroup.{power_times, power_sums, power_sums-by-right}
use Rattle.terms.specs.Terms.{power_gain}
use Rattle.terms.specs.FromSums.{HoldsSums}

-- what is added for one j: (S^x·Uj)ᵗ times the sum over k of M(j,k)·S^y·Uk
abbrev pub right_sum : (l n : ℕ) (M : ℕ → ℕ → Matrix) (U : ℕ → Matrix) (j y : ℕ) → Matrix
right_sum l n M U j y = sum_m n (λ k. mul_m l (M j k) (power_times l y (U k)))

unfoldable pub sum_term : (l n : ℕ) (M : ℕ → ℕ → Matrix) (U : ℕ → Matrix) (x y j : ℕ) → Matrix
sum_term l n M U x y j = mul_m l (transpose (power_times l x (U j))) (right_sum l n M U j y)

-- the first j of them, as rows of l·l bytes: row x·l + r, column y·l + c
unfoldable pub sums_row : (l n : ℕ) (M : ℕ → ℕ → Matrix) (U : ℕ → Matrix) (j row z : ℕ) → ℕ
sums_row l n M U j row z = sum_m j (sum_term l n M U (row / l) (z / l)) (row % l) (z % l)

-- the l·l rows from byte `at` on have gained the first j terms
pub record Accumulating (l n : ℕ) (M : ℕ → ℕ → Matrix) (U : ℕ → Matrix) (at : ℕ) (d : List ℕ) (j : ℕ) (t : List ℕ) : Type 0 where
  pub so_far : PlusRows d at (l * l) (l * l) (sums_row l n M U j) t

pub accumulating-none : {l n : ℕ} {M : ℕ → ℕ → Matrix} {U : ℕ → Matrix} {at : ℕ} {d : List ℕ} → Accumulating l n M U at d 0 d
unfolding sums_row
accumulating-none {l} {n} {M} {U} {at} {d} = record {
  so_far = record {
    long = refl;
    inside = λ row z hr hz.
        sym (ap (λ (N : Matrix). add (get_or d (at + (row * (l * l) + z)) 0) (N (row % l) (z % l))) (sum-none (matrices l) (sum_term l n M U (row / l) (z / l)))
        ∙ add-zero (get_or d (at + (row * (l * l) + z)) 0));
    low = λ k h. refl;
    high = λ k h. refl;
  };
}

-- a number below l·l by its digits
record Digits (l k : ℕ) : Type 0 where
  high : k / l < l
  low : k % l < l
  is : k / l * l + k % l ≡ k

digits : (l k : ℕ) → k < l * l → Digits l k
digits l k h =
    elim (dec_lt 0 l) [
      | yes b ↦ record { high = (div-lt_iff_lt-mul b).1 h; low = mod-lt k b; is = div-add-mod' k l }
      | no b ↦ let l-is : l ≡ 0 = omega arith in absurd (not-suc-le-zero (rw (l-is, mul-zero) at h))
    ]

-- the gain for one j, in blocks
module _ (l n : ℕ) (M : ℕ → ℕ → Matrix) (U : ℕ → Matrix) (w : List ℕ) (j : ℕ) (list : List ℕ)
    (powers : (x : ℕ) → x < l → Same l (tile l (l * l) w j x) (power_times l x (U j)))
    (right : (y : ℕ) → y < l → Same l (tile l (l * l) list 0 y) (right_sum l n M U j y)) where
  gain-is : (row z : ℕ) → row < l * l → z < l * l → power_gain l w j list row z ≡ sum_term l n M U (row / l) (z / l) j (row % l) (z % l)
  unfolding sum_term mul_m transpose
  gain-is row z hr hz =
      let dr = digits l row hr in
      let dz = digits l z hz in
      sum-cong field-ring l (λ a ha.
      let left : get_or w ((j * l + a) * (l * l) + row) 0 ≡ power_times l (row / l) (U j) a (row % l) =
      ap (λ i. get_or w ((j * l + a) * (l * l) + i) 0) (sym dr.is) ∙ sym (tile-is l (l * l) w j (row / l) a (row % l))
      ∙ (powers (row / l) dr.high).at a (row % l) ha dr.low in
      let place : a * (l * l) + z ≡ (0 * l + a) * (l * l) + (z / l * l + z % l) = omega (arith, dz.is) in
      let factor : get_or list (a * (l * l) + z) 0 ≡ right_sum l n M U j (z / l) a (z % l) =
      ap (λ i. get_or list i 0) place ∙ sym (tile-is l (l * l) list 0 (z / l) a (z % l)) ∙ (right (z / l) dz.high).at a (z % l) ha dz.low in
      ap₂ mul left factor)

  sums-more : (row z : ℕ) → row < l * l → z < l * l
      → add (sums_row l n M U j row z) (power_gain l w j list row z) ≡ sums_row l n M U (j + 1) row z
  unfolding sums_row add_m
  sums-more row z hr hz =
      ap (add (sum_m j (sum_term l n M U (row / l) (z / l)) (row % l) (z % l))) (gain-is row z hr hz)
      ∙ sym (ap (λ (N : Matrix). N (row % l) (z % l)) (sum_more (matrices l) j (sum_term l n M U (row / l) (z / l))))

  -- one j more: w holds the powers of S times Uj in block row j, and `list` the sums over k
  pub accumulating-next : {at : ℕ} {d t u : List ℕ} → Accumulating l n M U at d j t → PlusRows t at (l * l) (l * l) (power_gain l w j list) u → Accumulating l n M U at d (j + 1) u
  accumulating-next p q = record { so_far = rows-cong sums-more (rows_then p.so_far q) }

-- all of them, on rows that were zero: the rows hold the power sums
accumulating-end : {l n : ℕ} {M : ℕ → ℕ → Matrix} {U : ℕ → Matrix} {at : ℕ} {d t : List ℕ} (i : ℕ) → Accumulating l n M U at d n t → at ≡ i * (l * l) * (l * l)
    → ((k : ℕ) → k < l * l * (l * l) → get_or d (at + k) 0 ≡ 0) → (x y : ℕ) → x < l → y < l → Same l (tile l (l * l) t (i * l + x) y) (power_sums l n M U x y)
unfolding sums_row sum_term
accumulating-end {l} {n} {M} {U} {at} {d} {t} i p at-is zero x y hx hy = record {
  at = λ r c hr hc.
      let place : ((i * l + x) * l + r) * (l * l) + (y * l + c) ≡ at + ((x * l + r) * (l * l) + (y * l + c)) = omega arith in
      tile-is l (l * l) t (i * l + x) y r c
      ∙ ap (λ k. get_or t k 0) place
      ∙ rows-zero-start p.so_far zero (x * l + r) (y * l + c) (digits_lt hx hr) (digits_lt hy hc)
      ∙ rw (digits_div x hr, digits_mod x hr, digits_div y hc, digits_mod y hc) (sym (ap (λ (N : Matrix). N r c) (power_sums-by-right l n M U x y)));
}

-- ---- index after index

-- the first `count` indices are done, and all behind them is zero
pub record SumsUpTo (l n : ℕ) (M : ℕ → ℕ → ℕ → Matrix) (U : ℕ → Matrix) (count : ℕ) (s : List ℕ) : Type 0 where
  pub holds : HoldsSums l n M U count s
  pub rest : (k : ℕ) → count * (l * l) * (l * l) ≤ k → get_or s k 0 ≡ 0

pub sums_none : {l n : ℕ} {M : ℕ → ℕ → ℕ → Matrix} {U : ℕ → Matrix} {s : List ℕ} → ((k : ℕ) → get_or s k 0 ≡ 0) → SumsUpTo l n M U 0 s
sums_none z = record { holds = record { same = λ i x y h hx hy. absurd (not-suc-le-zero h) }; rest = λ k h. z k }

pub sums_next : {l n : ℕ} {M : ℕ → ℕ → ℕ → Matrix} {U : ℕ → Matrix} {count at : ℕ} {s t : List ℕ} → SumsUpTo l n M U count s → at ≡ count * (l * l) * (l * l)
    → Accumulating l n (M count) U at s n t → SumsUpTo l n M U (count + 1) t
sums_next {l} {n} {M} {U} {count} {at} {s} {t} p at-is q = record {
  holds = record { same = same };
  rest = λ k h. q.so_far.high k (omega arith) ∙ p.rest k (omega arith);
}
  where
    -- a place of an index that is done lies below
    before : {i x y r c : ℕ} → i < count → x < l → y < l → r < l → c < l → ((i * l + x) * l + r) * (l * l) + (y * l + c) < at
    before hi hx hy hr hc = omega (arith, digits_lt (digits_lt (digits_lt hi hx) hr) (digits_lt hy hc))

    same : (i x y : ℕ) → i < count + 1 → x < l → y < l → Same l (tile l (l * l) t (i * l + x) y) (power_sums l n (M i) U x y)
    same i x y h hx hy =
        elim (dec_lt i count) [
          | yes b ↦
              record {
                at = λ r c hr hc.
                    tile-is l (l * l) t (i * l + x) y r c
                    ∙ q.so_far.low (((i * l + x) * l + r) * (l * l) + (y * l + c)) (before b hx hy hr hc)
                    ∙ sym (tile-is l (l * l) s (i * l + x) y r c)
                    ∙ (p.holds.same i x y b hx hy).at r c hr hc;
              }
          | no b ↦
              let i-is : i ≡ count = omega arith in
              rw i-is (accumulating-end count q at-is (λ k l. p.rest (at + k) (omega arith)) x y hx hy)
        ]
