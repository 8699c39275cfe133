-- Rows of one length, one right after the other, gain each by its rule: what a loop over the rows of a table has done, or one over the blocks of a row.
-- Rests on Plus, and on ground's places of rows.
use Rattle.std.specs.Prelude.{◌≡◌, refl, List, ℕ, ◌+◌, ◌*◌, ◌/◌, ◌%◌, ◌<◌, ◌≤◌, length, get_or}
use Rattle.std.proofs.Common.{ap, ◌∙◌, not-suc-le-zero, div-add-mod', div-lt_iff_lt-mul, mod-lt, mul-zero, arith}
use Rattle.std.proofs.Math.Decide.{dec_lt}
use Rattle.std.proofs.Math.Arith.{digits_lt}
use Rattle.ground.specs.Place.{row_fits}
use Rattle.field.specs.Field.{add}
use Rattle.field.specs.Laws.{add_assoc, zero-add}
use Rattle.rows.specs.Plus.{Plus, plus-unique, plus-lt}

-- t is d with f r 0, .. , f r (n - 1) added to row r, for the m rows of n bytes from byte `at` on
pub record PlusRows (d : List ℕ) (at m n : ℕ) (f : ℕ → ℕ → ℕ) (t : List ℕ) : Type 0 where
  pub long : length t ≡ length d
  pub inside : (r c : ℕ) → r < m → c < n → get_or t (at + (r * n + c)) 0 ≡ add (get_or d (at + (r * n + c)) 0) (f r c)
  pub low : (k : ℕ) → k < at → get_or t k 0 ≡ get_or d k 0
  pub high : (k : ℕ) → at + m * n ≤ k → get_or t k 0 ≡ get_or d k 0

-- ---- a loop that goes from row to row

pub rows_none : {d : List ℕ} {at n : ℕ} {f : ℕ → ℕ → ℕ} → PlusRows d at 0 n f d
rows_none = record { long = refl; inside = λ r c h l. absurd (not-suc-le-zero h); low = λ k h. refl; high = λ k h. refl }

-- one row more, at its place
pub rows_next : {d t u : List ℕ} {at m n place : ℕ} {f : ℕ → ℕ → ℕ} → PlusRows d at m n f t → place ≡ at + m * n → Plus t place n (f m) u
    → PlusRows d at (m + 1) n f u
rows_next {d} {t} {u} {at} {m} {n} {place} {f} p e q =
    record {
      long = q.long ∙ p.long;
      inside = λ r c h l.
          elim (dec_lt r m) [
            | yes b ↦ q.low (at + (r * n + c)) (omega (arith, row_fits n b)) ∙ p.inside r c b l
            | no b ↦
                let r-is : r ≡ m = omega arith in
                let place_is : place + c ≡ at + (m * n + c) = omega arith in
                let new : get_or u (place + c) 0 ≡ add (get_or d (place + c) 0) (f m c) =
                q.inside c l ∙ ap (λ x. add x (f m c)) (p.high (place + c) (omega arith)) in
                rw (r-is, ← place_is) new
          ];
      low = λ k h. q.low k (omega arith) ∙ p.low k h;
      high = λ k h. q.high k (omega arith) ∙ p.high k (omega arith);
    }

pub rows-cong : {d t : List ℕ} {at m n : ℕ} {f g : ℕ → ℕ → ℕ} → ((r c : ℕ) → r < m → c < n → f r c ≡ g r c) → PlusRows d at m n f t → PlusRows d at m n g t
rows-cong {d} {at = at} {n = n} e p =
    record { long = p.long; inside = λ r c h l. p.inside r c h l ∙ ap (add (get_or d (at + (r * n + c)) 0)) (e r c h l); low = p.low; high = p.high }

-- ---- the rows as one part

-- place k of m rows of n, by its row and its column
record At (m n k : ℕ) : Type 0 where
  pub row : k / n < m
  pub column : k % n < n
  pub is : k / n * n + k % n ≡ k

at_place : {m n : ℕ} (k : ℕ) → k < m * n → At m n k
at_place {m} {n} k h =
    elim (dec_lt 0 n) [
      | yes b ↦ record { row = (div-lt_iff_lt-mul b).1 h; column = mod-lt k b; is = div-add-mod' k n }
      | no b ↦ let n-is : n ≡ 0 = omega arith in absurd (not-suc-le-zero (rw (n-is, mul-zero) at h))
    ]

pub rows-plus : {d t : List ℕ} {at m n : ℕ} {f : ℕ → ℕ → ℕ} → PlusRows d at m n f t → Plus d at (m * n) (λ e. f (e / n) (e % n)) t
rows-plus {d} {t} {at} {m} {n} {f} p =
    record {
      long = p.long;
      inside = λ k h.
          let here : At m n k = at_place k h in
          let new : get_or t (at + (k / n * n + k % n)) 0 ≡ add (get_or d (at + (k / n * n + k % n)) 0) (f (k / n) (k % n)) = p.inside (k / n) (k % n) here.row here.column in
          rw here.is at new;
      low = p.low;
      high = p.high;
    }

pub plus-rows : {d t : List ℕ} {at m n : ℕ} {f : ℕ → ℕ} → Plus d at (m * n) f t → PlusRows d at m n (λ r c. f (r * n + c)) t
plus-rows {n = n} p = record { long = p.long; inside = λ r c h l. p.inside (r * n + c) (digits_lt h l); low = p.low; high = p.high }

-- the rows, their rule and the list before fix the list after
pub rows-unique : {d t u : List ℕ} {at m n : ℕ} {f : ℕ → ℕ → ℕ} → PlusRows d at m n f t → PlusRows d at m n f u → t ≡ u
rows-unique p q = plus-unique (rows-plus p) (rows-plus q)

-- ---- what the rows hold after their gain

-- the same rows gain twice
pub rows_then : {d t u : List ℕ} {at m n : ℕ} {f g : ℕ → ℕ → ℕ} → PlusRows d at m n f t → PlusRows t at m n g u → PlusRows d at m n (λ r c. add (f r c) (g r c)) u
rows_then {g = g} p q =
    record {
      long = q.long ∙ p.long;
      inside = λ r c h l. q.inside r c h l ∙ ap (λ x. add x (g r c)) (p.inside r c h l) ∙ add_assoc _ _ _;
      low = λ k l. q.low k l ∙ p.low k l;
      high = λ k l. q.high k l ∙ p.high k l;
    }

-- what was zero holds the gain itself
pub rows-zero-start : {d t : List ℕ} {at m n : ℕ} {f : ℕ → ℕ → ℕ} → PlusRows d at m n f t → ((k : ℕ) → k < m * n → get_or d (at + k) 0 ≡ 0)
    → (r c : ℕ) → r < m → c < n → get_or t (at + (r * n + c)) 0 ≡ f r c
rows-zero-start {n = n} {f = f} p z r c h l = p.inside r c h l ∙ ap (λ x. add x (f r c)) (z (r * n + c) (digits_lt h l)) ∙ zero-add (f r c)

-- elements that gain elements are elements
pub rows-lt : {d t : List ℕ} {at m n : ℕ} {f : ℕ → ℕ → ℕ} → PlusRows d at m n f t → ((k : ℕ) → k < m * n → get_or d (at + k) 0 < 16)
    → ((r c : ℕ) → r < m → c < n → f r c < 16) → (k : ℕ) → k < m * n → get_or t (at + k) 0 < 16
rows-lt {n = n} p hd hf = plus-lt (rows-plus p) hd (λ k h. let here = at_place k h in hf (k / n) (k % n) here.row here.column)
