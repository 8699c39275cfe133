-- A sum of rows, each times its scalar: what a part gains from a stream or a column of scalars, and the loop that adds one row after the other.
-- Rests on Plus, and on ground's places of rows.
use Rattle.std.specs.Prelude.{◌≡◌, List, ℕ, ◌+◌, ◌*◌, ◌<◌, ◌≤◌, length, get_or}
use Rattle.std.proofs.Common.{ap₂, subst, arith}
use Rattle.ground.specs.Place.{row_fits}
use Rattle.field.specs.Field.{add, mul}
use Rattle.algebra.specs.Sum.{sum}
use Rattle.rows.specs.Plus.{Plus, plus-cong, plus-sum-none, plus-sum-next}

-- g 0 times row first, plus g 1 times row first + 1, .. , of count rows of n bytes: entry c
abbrev pub combination : (ℕ → ℕ) → List ℕ → ℕ → ℕ → ℕ → ℕ → ℕ
combination g src n first count = λ c. sum 0 add count (λ x. mul (g x) (get_or src ((first + x) * n + c) 0))

-- the loop after x rows: t is d with these rows added, and `row` is where the next row begins
pub record Combining (d : List ℕ) (at n : ℕ) (g : ℕ → ℕ) (src : List ℕ) (first count x row : ℕ) (t : List ℕ) : Type 0 where
  pub upto : x ≤ count
  pub within : (first + count) * n ≤ length src
  pub next : row ≡ (first + x) * n
  pub so_far : Plus d at n (combination g src n first x) t

pub combining-none : {d src : List ℕ} {at n first count : ℕ} {g : ℕ → ℕ} → (first + count) * n ≤ length src → Combining d at n g src first count 0 (first * n) d
combining-none {src = src} {n = n} {first = first} {g = g} h =
    record { upto = omega arith; within = h; next = omega arith; so_far = plus-sum-none (λ x c. mul (g x) (get_or src ((first + x) * n + c) 0)) }

-- the next row lies within the table
pub row_within : {d src t : List ℕ} {at n first count x row : ℕ} {g : ℕ → ℕ} → Combining d at n g src first count x row t → x < count → row + n ≤ length src
row_within {n = n} {first = first} {count = count} {x = x} p l =
    let h : first + x < first + count = omega arith in
    omega (arith, row_fits n h)

-- one row more, times its scalar s
pub combining-next : {d src t u : List ℕ} {at n first count x row s : ℕ} {g : ℕ → ℕ} → Combining d at n g src first count x row t → x < count → s ≡ g x
    → Plus t at n (λ c. mul s (get_or src (row + c) 0)) u → Combining d at n g src first count (x + 1) (row + n) u
combining-next {src = src} {n = n} {first = first} {x = x} {g = g} p l e q =
    record {
      upto = omega arith;
      within = p.within;
      next = omega (arith, p.next);
      so_far = plus-sum-next (λ x c. mul (g x) (get_or src ((first + x) * n + c) 0)) p.so_far (plus-cong (λ c h. ap₂ (λ a b. mul a (get_or src (b + c) 0)) e p.next) q);
    }

pub combining-end : {d src t : List ℕ} {at n first count x row : ℕ} {g : ℕ → ℕ} → Combining d at n g src first count x row t → count ≤ x
    → Plus d at n (combination g src n first count) t
combining-end {d} {src} {t} {at} {n} {first} {g = g} p l = subst (λ k. Plus d at n (combination g src n first k) t) (omega (arith, p.upto)) p.so_far
