-- No second outcome meets a contract of this crate: every lent buffer is fixed by what went in.
-- Rests on rows' Plus and PlusRows, on Filled and on Unpacked.
use Rattle.std.specs.Prelude.{◌≡◌, refl, List, ℕ, ◌+◌, ◌*◌}
use Rattle.std.proofs.Common.{arith}
use Rattle.sets.specs.declared.Set.{Set}
use Rattle.matrix.specs.RingElements.{power_s}
use Rattle.scheme.specs.Streams.{T12}
use Rattle.scheme.specs.Regroup.{power_times}
use Rattle.rows.specs.Plus.{Plus, plus-unique}
use Rattle.rows.specs.PlusRows.{PlusRows, rows-unique}
use Rattle.words.specs.Multiples.{Multiples}
use Rattle.tables.specs.Table.{Filled, filled-unique}
use Rattle.tables.specs.Gains.{blocks_row, product_row}
use Rattle.tables.specs.Unpacked.{Unpacked, unpacked-unique, list_of}
use Rattle.tables.specs.Sums.{transposed_gain, times_gain, rows_of, left_gain}

pub unique-add-block-row : (d stream : List ℕ) (at number l r count : ℕ) {t u : List ℕ} → Plus d at (count * l) (blocks_row l stream number r) t
    → Plus d at (count * l) (blocks_row l stream number r) u → t ≡ u
unique-add-block-row d stream at number l r count = plus-unique

-- for a table whose multiples are looked up
pub unique-add-blocks : (d stream src multiples : List ℕ) (at n number l count first : ℕ) {t u : List ℕ} → Multiples n ((first + count) * l) src multiples
    → ((src : List ℕ) → Multiples n ((first + count) * l) src multiples → PlusRows d at l n (λ r. product_row l stream number r count src n first) t)
    → ((src : List ℕ) → Multiples n ((first + count) * l) src multiples → PlusRows d at l n (λ r. product_row l stream number r count src n first) u) → t ≡ u
unique-add-blocks d stream src multiples at n number l count first m p q = rows-unique (p src m) (q src m)

pub unique-unpack-all : (d stream : List ℕ) (n : ℕ) {t u : List ℕ} → Unpacked stream n d t → Unpacked stream n d u → t ≡ u
unique-unpack-all d stream n = unpacked-unique

pub unique-powers-of-s : (d : List ℕ) (l : ℕ) {t u : List ℕ} → Filled l l l 1 (λ p k. power_s l p) d t → Filled l l l 1 (λ p k. power_s l p) d u → t ≡ u
unique-powers-of-s d l p q = let width : l ≡ 1 * l = omega arith in filled-unique width p q

pub unique-private-table : (d private : List ℕ) (set : Set) {t u : List ℕ} → Filled set.l (set.o * set.l) set.v set.o (T12 set private) d t
    → Filled set.l (set.o * set.l) set.v set.o (T12 set private) d u → t ≡ u
unique-private-table d private set = filled-unique refl

pub unique-power-table : (d list : List ℕ) (l n : ℕ) {t u : List ℕ} → Filled l (l * l) n l (λ k b. power_times l b (list_of l list k)) d t
    → Filled l (l * l) n l (λ k b. power_times l b (list_of l list k)) d u → t ≡ u
unique-power-table d list l n = filled-unique refl

-- ---- products of tables

pub unique-add-transposed : (d scalars src : List ℕ) (at n place m count : ℕ) {t u : List ℕ}
    → PlusRows d at m n (transposed_gain scalars place m count (rows_of n src)) t → PlusRows d at m n (transposed_gain scalars place m count (rows_of n src)) u → t ≡ u
unique-add-transposed d scalars src at n place m count = rows-unique

pub unique-add-times : (d scalars src : List ℕ) (at n m count : ℕ) {t u : List ℕ}
    → PlusRows d at m n (times_gain (rows_of count scalars) count (rows_of n src)) t → PlusRows d at m n (times_gain (rows_of count scalars) count (rows_of n src)) u → t ≡ u
unique-add-times d scalars src at n m count = rows-unique

pub unique-add-left : (d x stream : List ℕ) (at l v m number count : ℕ) {t u : List ℕ}
    → PlusRows d at m (count * l) (left_gain l v x m stream number count) t → PlusRows d at m (count * l) (left_gain l v x m stream number count) u → t ≡ u
unique-add-left d x stream at l v m number count = rows-unique
