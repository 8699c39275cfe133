-- The blocks of a stream, laid out, times a table by its multiples: row after row.
-- Rests on words' look-ups, streams' Laid and Gains.
use Rattle.std.specs.Prelude.{◌≡◌, refl, List, ℕ, ◌+◌, ◌*◌, ◌<◌, ◌≤◌, length, get_or}
use Rattle.std.proofs.Common.{ap, ap₂, subst, ◌∙◌, arith}
use Rattle.ground.specs.Place.{row_fits}
use Rattle.algebra.specs.Sum.{sum-cong, sum-swap}
use Rattle.field.specs.Field.{mul}
use Rattle.field.specs.FieldRing.{field-ring}
use Rattle.rows.specs.Plus.{Plus, plus-cong}
use Rattle.rows.specs.PlusRows.{PlusRows, rows_none, rows_next}
use Rattle.words.specs.Words.{nibble}
use Rattle.words.specs.Multiples.{Multiples}
use Rattle.words.specs.Lookups.{block_lookups, block_sum, block-lookups}
use Rattle.streams.specs.Laid.{Laid}
use Rattle.tables.specs.Gains.{product_row}

-- ---- row r of the product

-- its elements, from the blocks as they are laid
laid-sum : {l count number place : ℕ} {stream flat : List ℕ} → Laid l count stream number place flat → (src : List ℕ) (n first r z : ℕ) → r < l
    → block_sum src n flat (first * l) l (place + r * l) count z ≡ product_row l stream number r count src n first z
unfolding block_sum product_row
laid-sum {l} {count} {number} {place} {stream} {flat} p src n first r z hr =
    sum-swap field-ring l count (λ x k. mul (get_or flat (place + r * l + x + k * (l * l)) 0) (get_or src ((first * l + x + k * l) * n + z) 0))
    ∙ sum-cong field-ring count (λ k hk. sum-cong field-ring l (λ x hx. ap₂ mul (p.entry k r x hk hr hx) (ap (λ y. get_or src (y * n + z) 0) (row x k))))
  where
    row : (x k : ℕ) → first * l + x + k * l ≡ (first + k) * l + x
    row x k = omega arith

-- ---- a loop over the l rows, for every table whose multiples are looked up

pub record AddingBlocks (d : List ℕ) (at n : ℕ) (stream : List ℕ) (number l count : ℕ) (multiples : List ℕ) (first r : ℕ) (t : List ℕ) : Type 0 where
  pub upto : r ≤ l
  pub long : length t ≡ length d
  pub so_far : (src : List ℕ) → Multiples n ((first + count) * l) src multiples → PlusRows d at r n (λ y. product_row l stream number y count src n first) t

pub adding-none : {d : List ℕ} {at n : ℕ} {stream : List ℕ} {number l count : ℕ} {multiples : List ℕ} {first : ℕ} → AddingBlocks d at n stream number l count multiples first 0 d
adding-none = record { upto = omega arith; long = refl; so_far = λ src m. rows_none }

pub adding-next : {d t u : List ℕ} {at n : ℕ} {stream : List ℕ} {number l count : ℕ} {multiples : List ℕ} {first r place w : ℕ} {flat : List ℕ}
    → AddingBlocks d at n stream number l count multiples first r t → r < l → Laid l count stream number place flat
    → w ≡ block_lookups multiples flat (first * l) l (place + r * l) count → Plus t (at + r * n) n (nibble w) u
    → AddingBlocks d at n stream number l count multiples first (r + 1) u
adding-next {n = n} {stream} {number} {l} {count} {multiples} {first} {r} {place} {w} {flat} p hr laid w-is q = record {
  upto = omega arith;
  long = q.long ∙ p.long;
  so_far = λ src m. rows_next (p.so_far src m) refl (plus-cong (λ z hz. ap (λ x. nibble x z) w-is ∙ element-of src m z hz) q);
}
  where
    element-of : (src : List ℕ) → Multiples n ((first + count) * l) src multiples → (z : ℕ) → z < n
        → nibble (block_lookups multiples flat (first * l) l (place + r * l) count) z ≡ product_row l stream number r count src n first z
    element-of src m z hz = block-lookups m flat (first * l) l (place + r * l) count (omega arith) z hz ∙ laid-sum laid src n first r z hr

pub adding-end : {d t : List ℕ} {at n : ℕ} {stream : List ℕ} {number l count : ℕ} {multiples : List ℕ} {first r : ℕ}
    → AddingBlocks d at n stream number l count multiples first r t → l ≤ r
    → (src : List ℕ) → Multiples n ((first + count) * l) src multiples → PlusRows d at l n (λ y. product_row l stream number y count src n first) t
adding-end {d} {t} {at} {n} {stream} {number} {l} {count} {first = first} p h src m =
    subst (λ k. PlusRows d at k n (λ y. product_row l stream number y count src n first) t) (omega (arith, p.upto)) (p.so_far src m)

-- ---- sizes that the code needs

-- a row of a block starts within it
pub row_room : {l r : ℕ} → r < l → r * l + l ≤ l * l
row_room {l} h = row_fits l h
