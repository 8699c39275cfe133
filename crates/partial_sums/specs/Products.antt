-- What the rows of a table gain from the blocks of a stream times a table, the loop that stacks such rows, and where a turn reads and writes.
-- Rests on rows' PlusRows and tables' rows of products.
use Rattle.std.specs.Prelude.{◌≡◌, refl, List, ℕ, ◌+◌, ◌*◌, ◌/◌, ◌%◌, ◌<◌, ◌≤◌, length}
use Rattle.std.proofs.Common.{subst, ◌∙◌, mul-le-mul_right, le-mul_of_pos_right, mul-pos, arith}
use Rattle.std.proofs.Math.Arith.{digits_div, digits_mod}
use Rattle.ground.specs.Place.{row_fits}
use Rattle.rows.specs.PlusRows.{PlusRows, rows_none, rows-cong}
use Rattle.rows.specs.RowsJoin.{rows_end, rows_join}
use Rattle.words.specs.Multiples.{Multiples, fewer-multiples}
use Rattle.tables.specs.Gains.{product_row}

-- row y of the products of blocks: row y % l of the sum over k < count of block number + (y / l)·count + k times block row k of src
abbrev pub products_row : (l : ℕ) (stream : List ℕ) (number count : ℕ) (src : List ℕ) (n : ℕ) → ℕ → ℕ → ℕ
products_row l stream number count src n y = product_row l stream (number + y / l * count) (y % l) count src n 0

-- ---- a loop over i, each with m rows of its own

pub record Stacking (d : List ℕ) (m n o : ℕ) (g : ℕ → ℕ → ℕ → ℕ) (i : ℕ) (t : List ℕ) : Type 0 where
  pub upto : i ≤ o
  pub so_far : PlusRows d 0 (i * m) n (λ y. g (y / m) (y % m)) t

pub stacking-none : {d : List ℕ} {m n o : ℕ} {g : ℕ → ℕ → ℕ → ℕ} → Stacking d m n o g 0 d
stacking-none {d} {m} {n} {o} {g} = record { upto = omega arith; so_far = rows_end {m = 0 * m} rows_none (omega arith) (omega arith) }

pub stacking-next : {d t u : List ℕ} {m n o i place : ℕ} {g : ℕ → ℕ → ℕ → ℕ} → Stacking d m n o g i t → i < o → place ≡ i * (m * n) → PlusRows t place m n (g i) u
    → Stacking d m n o g (i + 1) u
stacking-next {d} {t} {u} {m} {n} {o} {i} {place} {g} p h e q = record {
  upto = omega arith;
  so_far = rows_end {m = (i + 1) * m} (rows_join p.so_far (omega arith) (rows-cong (λ r c hr hc. rule r c hr) q)) (omega arith) (omega arith);
}
  where
    rule : (r c : ℕ) → r < m → g i r c ≡ g ((i * m + r) / m) ((i * m + r) % m) c
    rule r c hr = rw (digits_div i hr, digits_mod i hr)

pub stacking-end : {d t : List ℕ} {m n o i : ℕ} {g : ℕ → ℕ → ℕ → ℕ} → Stacking d m n o g i t → o ≤ i → PlusRows d 0 (o * m) n (λ y. g (y / m) (y % m)) t
stacking-end {d} {t} {m} {n} {o} {i} {g} p h = let all : i ≡ o = omega (arith, p.upto) in rw all at p.so_far

-- ---- where a turn reads and writes

-- block row y of the a by count blocks of a stream, and the l rows of n bytes that it gives
pub record ProductTurn (l n number a count y : ℕ) : Type 0 where
  pub rows : y * (l * n) + l * n ≤ a * l * n
  pub first : y * count + count ≤ a * count
  pub blocks : (number + y * count + count) * (l * l) ≤ (number + a * count) * (l * l)
  pub plain : number + a * count ≤ (number + a * count) * (l * l)

pub product-turn : (l n number a count : ℕ) {y : ℕ} → 0 < l → y < a → ProductTurn l n number a count y
product-turn l n number a count {y} hl h =
    let first = row_fits count h in
    let whole : number + y * count + count ≤ number + a * count = omega arith in
    record {
      rows = omega (arith, row_fits (l * n) h);
      first = first;
      blocks = mul-le-mul_right (l * l) whole;
      plain = le-mul_of_pos_right (number + a * count) (mul-pos hl hl);
    }

-- a loop over the a block rows: y of them are added, for every table whose multiples are looked up
pub record Multiplying (d : List ℕ) (at n : ℕ) (stream : List ℕ) (number l a count : ℕ) (multiples : List ℕ) (y : ℕ) (t : List ℕ) : Type 0 where
  pub upto : y ≤ a
  pub long : length t ≡ length d
  pub so_far : (src : List ℕ) → Multiples n (count * l) src multiples → PlusRows d at (y * l) n (products_row l stream number count src n) t

pub multiplying-none : {d : List ℕ} {at n : ℕ} {stream : List ℕ} {number l a count : ℕ} {multiples : List ℕ}
    → Multiplying d at n stream number l a count multiples 0 d
multiplying-none {d} {at} {n} {stream} {number} {l} {count = count} =
    let none : 0 ≡ 0 * l = omega arith in
    record {
      upto = omega arith;
      long = refl;
      so_far = λ src m. subst (λ k. PlusRows d at k n (products_row l stream number count src n) d) none rows_none;
    }

pub multiplying-next : {d t u : List ℕ} {at n : ℕ} {stream : List ℕ} {number l a count : ℕ} {multiples : List ℕ} {y : ℕ}
    → Multiplying d at n stream number l a count multiples y t → y < a → length u ≡ length t
    → ((src : List ℕ) → Multiples n ((0 + count) * l) src multiples
    → PlusRows t (at + y * (l * n)) l n (λ r. product_row l stream (number + y * count) r count src n 0) u)
    → Multiplying d at n stream number l a count multiples (y + 1) u
multiplying-next {d} {t} {u} {at} {n} {stream} {number} {l} {a} {count} {multiples} {y} p h long q =
    let more : y * l + l ≡ (y + 1) * l = omega arith in
    let place : at + y * (l * n) ≡ at + y * l * n = omega arith in
    record {
      upto = omega arith;
      long = long ∙ p.long;
      so_far = λ src m.
          subst (λ k. PlusRows d at k n (products_row l stream number count src n) u) more
          (rows_join (p.so_far src m) place (rows-cong (λ r c hr hc. rule src r c hr) (q src (fewer-multiples m (omega arith)))));
    }
  where
    rule : (src : List ℕ) (r c : ℕ) → r < l
        → product_row l stream (number + y * count) r count src n 0 c ≡ products_row l stream number count src n (y * l + r) c
    rule src r c hr = rw (digits_div y hr, digits_mod y hr)

pub multiplying-end : {d t : List ℕ} {at n : ℕ} {stream : List ℕ} {number l a count : ℕ} {multiples : List ℕ} {y : ℕ}
    → Multiplying d at n stream number l a count multiples y t → a ≤ y
    → (src : List ℕ) → Multiples n (count * l) src multiples → PlusRows d at (a * l) n (products_row l stream number count src n) t
multiplying-end {d} {t} {at} {n} {stream} {number} {l} {a} {count} {y = y} p h src m =
    let all : y ≡ a = omega (arith, p.upto) in
    subst (λ k. PlusRows d at (k * l) n (products_row l stream number count src n) t) all (p.so_far src m)

-- ---- a number that was computed, in the place of its definition

pub products_at : (l : ℕ) (stream : List ℕ) (count : ℕ) (src : List ℕ) (n : ℕ) {number k at m w : ℕ} {d t : List ℕ} → k ≡ number
    → PlusRows d at m w (products_row l stream k count src n) t → PlusRows d at m w (products_row l stream number count src n) t
products_at l stream count src n {at = at} {m = m} {w = w} {d = d} {t = t} e p = subst (λ k. PlusRows d at m w (products_row l stream k count src n) t) e p
