-- No second outcome meets a contract of this crate: every lent buffer is fixed by what went in.
-- Rests on rows' PlusRows and Filled.
use Rattle.std.specs.Prelude.{◌≡◌, List, ℕ, ◌+◌, ◌*◌, ◌/◌, ◌%◌, ◌<◌, ◌≤◌, length, get_or}
use Rattle.std.proofs.Common.{sym, ap, ◌∙◌, mul-pos, div-add-mod', div-lt_iff_lt-mul, mod-lt, arith, ext_get_or}
use Rattle.std.proofs.Math.Decide.{dec_lt}
use Rattle.rows.specs.PlusRows.{PlusRows, rows-unique}
use Rattle.rows.specs.Tile.{tile}
use Rattle.sets.specs.declared.Set.{Set}
use Rattle.sets.specs.Bounds.{Bounds}
use Rattle.matrix.specs.Matrix.{Matrix}
use Rattle.partial_sums.specs.Products.{products_row}
use Rattle.partial_sums.specs.Filled.{Stacked, LeftHolds, RightHolds, SumsHold}
use Rattle.partial_sums.specs.SumPlaces.{table-sizes}

-- ---- tables

-- m times n rows of w bytes, and what stands behind them, are the whole list
pub table-unique : {m n w : ℕ} {t u : List ℕ} → 0 < n → 0 < w → length t ≡ length u
    → ((i j z : ℕ) → i < m → j < n → z < w → get_or t ((i * n + j) * w + z) 0 ≡ get_or u ((i * n + j) * w + z) 0)
    → ((k : ℕ) → m * n * w ≤ k → get_or t k 0 ≡ get_or u k 0) → t ≡ u
table-unique {m} {n} {w} {t} {u} some wide long inside beyond = ext_get_or 0 t u long place
  where
    place : (k : ℕ) → k < length t → get_or t k 0 ≡ get_or u k 0
    place k h =
        elim (dec_lt k (m * n * w)) [
          | yes b ↦
              let row : k / w < m * n = (div-lt_iff_lt-mul wide).1 b in
              let is : (k / w / n * n + k / w % n) * w + k % w ≡ k = ap (λ y. y * w + k % w) (div-add-mod' (k / w) n) ∙ div-add-mod' k w in
              let same = inside (k / w / n) (k / w % n) (k % w) ((div-lt_iff_lt-mul some).1 row) (mod-lt (k / w) some) (mod-lt k wide) in
              ap (λ x. get_or t x 0) (sym is) ∙ same ∙ ap (λ x. get_or u x 0) is
          | no b ↦ beyond k (omega arith)
        ]

-- row j of matrix index i, by its blocks
stacked-entry : (l n w : ℕ) (s : List ℕ) (i j z : ℕ) → get_or s ((i * (n * l) + j) * w + z) 0 ≡ tile l w s (i * n + j / l) (z / l) (j % l) (z % l)
unfolding tile
stacked-entry l n w s i j z =
    let row : j / l * l + j % l ≡ j = div-add-mod' j l in
    let column : z / l * l + z % l ≡ z = div-add-mod' z l in
    let block-row : (i * n + j / l) * l + j % l ≡ i * (n * l) + j = omega arith in
    ap (λ x. get_or s x 0) (sym (ap (λ y. y * w + (z / l * l + z % l)) block-row ∙ ap (λ x. (i * (n * l) + j) * w + x) column))

stacked-unique : {l w o n m : ℕ} {M : ℕ → ℕ → ℕ → Matrix} {before t u : List ℕ} → 0 < l → 0 < n → 0 < w → w ≡ m * l
    → Stacked l w o n m M before t → Stacked l w o n m M before u → t ≡ u
stacked-unique {l} {w} {o} {n} {m} {M} {before} {t} {u} hl hn hw width p q =
    table-unique {m = o} (mul-pos hn hl) hw (p.long ∙ sym q.long)
    (λ i j z hi hj hz.
    let column : z < m * l = omega arith in
    let entry : (s : List ℕ) → Stacked l w o n m M before s → get_or s ((i * (n * l) + j) * w + z) 0 ≡ M i (j / l) (z / l) (j % l) (z % l) =
    λ s holds. stacked-entry l n w s i j z
    ∙ (holds.same i (j / l) (z / l) hi ((div-lt_iff_lt-mul hl).1 hj) ((div-lt_iff_lt-mul hl).1 column)).at (j % l) (z % l) (mod-lt j hl) (mod-lt z hl) in
    entry t p ∙ sym (entry u q))
    (λ k h. p.beyond k h ∙ sym (q.beyond k h))

module _ {set : Set} (bounds : Bounds set) where
  pub unique-fill-left : (public x t : List ℕ) {before left left' : List ℕ} → LeftHolds set public x t before left → LeftHolds set public x t before left' → left ≡ left'
  unique-fill-left public x t p q =
      let sizes = table-sizes bounds in
      stacked-unique sizes.positive-l sizes.positive-l (mul-pos sizes.positive-o sizes.positive-l) (omega arith) p q

  pub unique-fill-right : (public x t : List ℕ) {before right right' before' sums sums' : List ℕ}
      → RightHolds set public x t before right → SumsHold set public x before' sums → RightHolds set public x t before right' → SumsHold set public x before' sums'
      → (right ≡ right') × (sums ≡ sums')
  unique-fill-right public x t p s q r =
      let sizes = table-sizes bounds in (
        stacked-unique sizes.positive-l sizes.positive-o sizes.square (omega arith) p q,
        stacked-unique sizes.positive-l sizes.positive-l sizes.square (omega arith) s r,
      )

-- ---- rows that gain

pub unique-add-products : (d stream src : List ℕ) (at n number l a count : ℕ) {t u : List ℕ}
    → PlusRows d at (a * l) n (products_row l stream number count src n) t → PlusRows d at (a * l) n (products_row l stream number count src n) u → t ≡ u
unique-add-products d stream src at n number l a count = rows-unique
