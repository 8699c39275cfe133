-- Byte tables that hold l by l matrices: rows of w bytes, block (j, k) at rows j·l .. and columns k·l .. .
-- Rests on rows' tiles and on matrix's Same.
use Rattle.std.specs.Prelude.{◌≡◌, List, ℕ, ◌+◌, ◌*◌, ◌/◌, ◌%◌, ◌<◌, ◌≤◌, length, get_or}
use Rattle.std.proofs.Common.{sym, ap, ap₂, ◌∙◌, zero-add as zero-plus, not-suc-le-zero, mul-zero, mod-lt, div-lt_iff_lt-mul, div-add-mod', arith, ext_get_or}
use Rattle.std.proofs.Math.Decide.{dec_lt}
use Rattle.std.proofs.Math.Arith.{digits_lt}
use Rattle.field.specs.Field.{add}
use Rattle.field.specs.Laws.{zero-add}
use Rattle.matrix.specs.Matrix.{Matrix}
use Rattle.matrix.specs.Same.{Same, same-trans}
use Rattle.rows.specs.Plus.{Plus}
use Rattle.rows.specs.PlusRows.{PlusRows, rows_none, rows_next, rows-lt}
use Rattle.rows.specs.Tile.{tile, tile-is, entry-tile, rows-tile}
use Rattle.rows.specs.Zero.{zeros, length-zeros, zero-at}
use Rattle.rows.specs.RowsJoin.{rows_end}

-- the table s holds the matrices M(j, k) for j < a and k < b
pub record Holds (l w a b : ℕ) (s : List ℕ) (M : ℕ → ℕ → Matrix) : Type 0 where
  pub same : (j k : ℕ) → j < a → k < b → Same l (tile l w s j k) (M j k)

pub holds_same : {l w a b : ℕ} {s : List ℕ} {M N : ℕ → ℕ → Matrix} → ((j k : ℕ) → j < a → k < b → Same l (M j k) (N j k)) → Holds l w a b s M → Holds l w a b s N
holds_same e h = record { same = λ j k hj hk. same-trans (h.same j k hj hk) (e j k hj hk) }

-- what a function leaves of a buffer that it fills with a table: the matrices, elements throughout, and zeros behind the a · l rows
pub record Filled (l w a b : ℕ) (M : ℕ → ℕ → Matrix) (before after : List ℕ) : Type 0 where
  pub long : length after ≡ length before
  pub holds : Holds l w a b after M
  pub below : (e : ℕ) → get_or after e 0 < 16
  pub beyond : (e : ℕ) → a * l * w ≤ e → get_or after e 0 ≡ 0

-- ---- a table that was filled row by row

-- a loop that fills one row after the other
pub record Filling (d : List ℕ) (w count : ℕ) (f : ℕ → ℕ → ℕ) (y : ℕ) (t : List ℕ) : Type 0 where
  pub upto : y ≤ count
  pub so_far : PlusRows d 0 y w f t

pub filling-none : {d : List ℕ} {w count : ℕ} {f : ℕ → ℕ → ℕ} → Filling d w count f 0 d
filling-none = record { upto = omega arith; so_far = rows_none }

pub filling-next : {d t u : List ℕ} {w count y place : ℕ} {f : ℕ → ℕ → ℕ} → Filling d w count f y t → y < count → place ≡ y * w → Plus t place w (f y) u
    → Filling d w count f (y + 1) u
filling-next p h place_is q = record { upto = omega arith; so_far = rows_next p.so_far (omega arith) q }

pub filling-end : {d t : List ℕ} {w count y : ℕ} {f : ℕ → ℕ → ℕ} → Filling d w count f y t → count ≤ y → PlusRows d 0 count w f t
filling-end p h = rows_end p.so_far p.upto h

-- a cleared buffer reads 0 everywhere
pub cleared : (before : List ℕ) {d : List ℕ} → d ≡ zeros (length before) → (k : ℕ) → get_or d k 0 ≡ 0
cleared before e k = ap (λ s. get_or s k 0) e ∙ zero-at (length before) k

pub holds_rows : {l w a b : ℕ} {d t : List ℕ} {f : ℕ → ℕ → ℕ} {M : ℕ → ℕ → Matrix} → ((k : ℕ) → get_or d k 0 ≡ 0) → PlusRows d 0 (a * l) w f t → b * l ≤ w
    → ((j k r c : ℕ) → j < a → k < b → r < l → c < l → f (j * l + r) (k * l + c) ≡ M j k r c) → Holds l w a b t M
holds_rows {l} {w} {d = d} z p fits e = record {
  same = λ j k hj hk. record {
    at = λ r c hr hc.
        rows-tile l p j k r c (digits_lt hj hr) (omega (arith, digits_lt hk hc))
        ∙ ap₂ add (tile-is l w d j k r c ∙ z ((j * l + r) * w + (k * l + c))) (e j k r c hj hk hr hc)
        ∙ zero-add _;
  };
}

pub filled-rows : {l w a b : ℕ} {before d t : List ℕ} {f : ℕ → ℕ → ℕ} {M : ℕ → ℕ → Matrix} → d ≡ zeros (length before) → PlusRows d 0 (a * l) w f t → b * l ≤ w
    → ((j k r c : ℕ) → j < a → k < b → r < l → c < l → f (j * l + r) (k * l + c) ≡ M j k r c)
    → ((y z : ℕ) → y < a * l → z < w → f y z < 16) → Filled l w a b M before t
filled-rows {l} {w} {a} {b} {before} {d} {t} {f} e p fits rule small =
    let zero-there : (k : ℕ) → get_or d k 0 ≡ 0 = cleared before e in
    record {
      long = p.long ∙ ap length e ∙ length-zeros (length before);
      holds = holds_rows zero-there p fits rule;
      below = λ i.
          elim (dec_lt i (a * l * w)) [
            | yes h ↦ rw (zero-plus i) at (rows-lt p (λ k hk. rw (zero-there (0 + k)) (omega arith)) small i h)
            | no h ↦ rw (p.high i (omega arith) ∙ zero-there i) (omega arith)
          ];
      beyond = λ i h. p.high i (omega arith) ∙ zero-there i;
    }

-- ---- the table is fixed

-- place e of m rows of n, by its row and its column
digits : (m n e : ℕ) → e < m * n → (e / n < m) × (e % n < n)
digits m n e h =
    elim (dec_lt 0 n) [
      | yes b ↦ ((div-lt_iff_lt-mul b).1 h, mod-lt e b)
      | no b ↦ let n-is : n ≡ 0 = omega arith in absurd (not-suc-le-zero (rw (n-is, mul-zero) at h))
    ]

-- the byte at place e, by its block
place-tile : (l w : ℕ) (s : List ℕ) (e : ℕ) → get_or s e 0 ≡ tile l w s (e / w / l) (e % w / l) (e / w % l) (e % w % l)
place-tile l w s e = ap (λ i. get_or s i 0) (sym (div-add-mod' e w)) ∙ entry-tile l w s (e / w) (e % w)

pub filled-unique : {l w a b : ℕ} {M : ℕ → ℕ → Matrix} {before t u : List ℕ} → w ≡ b * l → Filled l w a b M before t → Filled l w a b M before u → t ≡ u
filled-unique {l} {w} {a} {b} {M} {before} {t} {u} w-is p q = ext_get_or 0 t u (p.long ∙ sym q.long) place
  where
    place : (e : ℕ) → e < length t → get_or t e 0 ≡ get_or u e 0
    place e h =
        elim (dec_lt e (a * l * w)) [
          | yes i ↦
              let whole = digits (a * l) w e i in
              let row = digits a l (e / w) whole.0 in
              let within : e % w < b * l = omega (arith, whole.1) in
              let column = digits b l (e % w) within in
              place-tile l w t e
              ∙ (p.holds.same (e / w / l) (e % w / l) row.0 column.0).at (e / w % l) (e % w % l) row.1 column.1
              ∙ sym ((q.holds.same (e / w / l) (e % w / l) row.0 column.0).at (e / w % l) (e % w % l) row.1 column.1)
              ∙ sym (place-tile l w u e)
          | no i ↦ p.beyond e (omega arith) ∙ sym (q.beyond e (omega arith))
        ]
