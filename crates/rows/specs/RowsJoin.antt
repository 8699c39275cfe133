-- Rows that gain after rows that gained: the two runs are one. And the end of a loop over rows.
-- Rests on PlusRows.
use Rattle.std.specs.Prelude.{◌≡◌, List, ℕ, ◌+◌, ◌-◌, ◌*◌, ◌<◌, ◌≤◌, get_or}
use Rattle.std.proofs.Common.{sym, ap, subst, ◌∙◌, arith}
use Rattle.std.proofs.Math.Decide.{dec_lt}
use Rattle.ground.specs.Place.{row_fits}
use Rattle.field.specs.Field.{add}
use Rattle.rows.specs.PlusRows.{PlusRows}

-- a loop's end
pub rows_end : {d t : List ℕ} {at i m n : ℕ} {f : ℕ → ℕ → ℕ} → PlusRows d at i n f t → i ≤ m → m ≤ i → PlusRows d at m n f t
rows_end {d} {t} {at} {n = n} {f = f} p h l = subst (λ k. PlusRows d at k n f t) (omega arith) p

-- the rows after m rows
pub rows_join : {d t u : List ℕ} {at m n k place : ℕ} {f : ℕ → ℕ → ℕ} → PlusRows d at m n f t → place ≡ at + m * n → PlusRows t place k n (λ r c. f (m + r) c) u
    → PlusRows d at (m + k) n f u
rows_join {d} {t} {u} {at} {m} {n} {k} {place} {f} p e q =
    record {
      long = q.long ∙ p.long;
      inside = λ r c h l.
          elim (dec_lt r m) [
            | yes b ↦ q.low (at + (r * n + c)) (omega (arith, row_fits n b)) ∙ p.inside r c b l
            | no b ↦
                let r-is : m + (r - m) ≡ r = omega arith in
                subst (λ y. get_or u (at + (y * n + c)) 0 ≡ add (get_or d (at + (y * n + c)) 0) (f y c)) r-is (after (r - m) c (omega arith) l)
          ];
      low = λ i h. q.low i (omega arith) ∙ p.low i h;
      high = λ i h. q.high i (omega arith) ∙ p.high i (omega arith);
    }
  where
    after : (x c : ℕ) → x < k → c < n → get_or u (at + ((m + x) * n + c)) 0 ≡ add (get_or d (at + ((m + x) * n + c)) 0) (f (m + x) c)
    after x c hx hc =
        let here : place + (x * n + c) ≡ at + ((m + x) * n + c) = omega arith in
        ap (λ i. get_or u i 0) (sym here) ∙ q.inside x c hx hc
        ∙ ap (λ y. add y (f (m + x) c)) (p.high (place + (x * n + c)) (omega arith) ∙ ap (λ i. get_or d i 0) here)
