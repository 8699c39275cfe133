-- The area's rows as the code writes them: where row r ends, what a pivot search finds, and what a store or a gain of a row does to the entries.
-- Rests on System and Step, on ground's segments and on the gains of rows.
use Rattle.std.specs.Prelude.{◌≡◌, refl, ◌≢◌, Option, None, Some, MatchOption, List, ℕ, ◌+◌, ◌*◌, ◌<◌, ◌≤◌, length, get_or, set}
use Rattle.std.proofs.Common.{ap, subst, ◌∙◌}
use Rattle.std.proofs.Math.Decide.{dec_lt}
use native.Mathlib.Omega.{arith}
use Rattle.sets.specs.Sets.{most_row}
use Rattle.ground.specs.Place.{row_fits}
use Rattle.ground.specs.Segment.{Segment, segment-next}
use Rattle.field.specs.Field.{add, mul}
use Rattle.rows.specs.Plus.{Plus, plus-cong}
use Rattle.rows.specs.PlusRows.{PlusRows, rows_next}
use Rattle.linear.specs.System.{at}
use Rattle.linear.specs.Step.{Exchanged, Cleared, factor}

-- row r of a system of n equations lies within the area
pub record Within (g : List ℕ) (n r : ℕ) : Type 0 where
  pub limit : n ≤ most_row
  pub ends : r * (n + 1) + (n + 1) ≤ length g

pub within : {g : List ℕ} {n : ℕ} (r : ℕ) → n ≤ most_row → n * (n + 1) ≤ length g → r < n → Within g n r
within {n = n} r limit fits h = record { limit = limit; ends = omega (arith, row_fits (n + 1) h) }

-- row p, from row k on, has an entry in column k that is not zero
pub record PivotAt (g : List ℕ) (n k p : ℕ) : Type 0 where
  pub from : k ≤ p
  pub inside : p < n
  pub nonzero : at g n p k ≢ 0

-- a row with an entry in column k, looked for in every row from row k on
abbrev pub Pivot : (g : List ℕ) (n k : ℕ) → Option ℕ → Type 0
Pivot g n k f = MatchOption f ((r : ℕ) → k ≤ r → r < n → at g n r k ≡ 0) (λ p. PivotAt g n k p)

pub pivot-found : {g : List ℕ} {n k p : ℕ} → PivotAt g n k p → Pivot g n k (Some p)
pivot-found a = a

-- no row from row k up to row p has one
pub record NoPivot (g : List ℕ) (n k p : ℕ) : Type 0 where
  pub from : k ≤ p
  pub upto : p ≤ n
  pub none : (r : ℕ) → k ≤ r → r < p → at g n r k ≡ 0

pub no-pivot-next : {g : List ℕ} {n k p : ℕ} → NoPivot g n k p → p < n → at g n p k ≡ 0 → NoPivot g n k (p + 1)
no-pivot-next {g} {n} {k} {p} a h e =
    record {
      from = omega (arith, a.from);
      upto = omega arith;
      none = λ r l b. elim (dec_lt r p) [ yes m ↦ a.none r l m | no m ↦ let r-is : r ≡ p = omega arith in rw r-is e ];
    }

pub pivot-nothing : {g : List ℕ} {n k p : ℕ} → NoPivot g n k p → n ≤ p → Pivot g n k None
pivot-nothing a h = λ r l b. a.none r l (omega arith)

-- ---- a row that is stored

-- the elements are stored, and the right-hand element after them
pub stored-end : {g t : List ℕ} {base c n : ℕ} {f : ℕ → ℕ} → Segment g base c f t → c ≤ n → n ≤ c → base + n < length g → (x : ℕ) → x ≡ f n
    → Segment g base (n + 1) f (set t (base + n) x)
stored-end {g} {t} {base} {c} {n} {f} s l h b x e = segment-next (subst (λ i. Segment g base i f t) (omega arith) s) b x e

module _ {g h : List ℕ} (n r : ℕ) {f : ℕ → ℕ} (s : Segment g (r * (n + 1)) (n + 1) f h) where
  pub stored_here : (c : ℕ) → c ≤ n → at h n r c ≡ f c
  unfolding at
  stored_here c l = s.inside c (omega arith)

  stored_other : (x c : ℕ) → x ≢ r → c ≤ n → at h n x c ≡ at g n x c
  unfolding at
  stored_other x c d l =
      elim (dec_lt x r) [
        | yes b ↦ s.low (x * (n + 1) + c) (omega (arith, row_fits (n + 1) b))
        | no b ↦ let b' : r < x = omega arith in s.high (x * (n + 1) + c) (omega (arith, row_fits (n + 1) b'))
      ]

  pub stored_past : r < n → (k : ℕ) → n * (n + 1) ≤ k → get_or h k 0 ≡ get_or g k 0
  stored_past b k l = s.high k (omega (arith, row_fits (n + 1) b))

-- row k is stored at p, and row p, times s, at k
pub exchanged : {g t h : List ℕ} {n k p s : ℕ} {old new : ℕ → ℕ} → Segment g (p * (n + 1)) (n + 1) old t → Segment t (k * (n + 1)) (n + 1) new h
    → ((c : ℕ) → c ≤ n → old c ≡ at g n k c) → ((c : ℕ) → c ≤ n → new c ≡ mul s (at g n p c)) → Exchanged n k p s (at g n) (at h n)
exchanged {n = n} {k} {p} a b e f =
    record {
      top = λ c l. stored_here n k b c l ∙ f c l;
      down = λ d c l. stored_other n k b p c d l ∙ stored_here n p a c l ∙ e c l;
      other = λ r c h l d d'. stored_other n k b r c d l ∙ stored_other n p a r c d' l;
    }

-- ---- rows that gain

pub cleared : {g h : List ℕ} {n k : ℕ} {new : ℕ → ℕ} → PlusRows g 0 n (n + 1) (λ r c. mul (factor k (at g n) r) (new c)) h
    → ((c : ℕ) → c ≤ n → new c ≡ at g n k c) → Cleared n k (at g n) (at h n)
unfolding at
cleared {g} {h} {n} {k} {new} p e = record { gain = gain }
  where
    gain : (r c : ℕ) → r < n → c ≤ n → at h n r c ≡ add (at g n r c) (mul (factor k (at g n) r) (at g n k c))
    gain r c b l =
        let e0 : r * (n + 1) + c ≡ 0 + (r * (n + 1) + c) = omega arith in
        ap (λ i. get_or h i 0) e0 ∙ p.inside r c b (omega arith) ∙ rw (← e0, e c l) refl

-- one row more: its factor is read where the rows before it have gained, and it has not
pub cleared-next : {g t u : List ℕ} (n k : ℕ) {r : ℕ} (s : ℕ) (new : ℕ → ℕ) → PlusRows g 0 r (n + 1) (λ r c. mul (factor k (at g n) r) (new c)) t
    → s ≡ factor k (at t n) r → Plus t (r * (n + 1)) (n + 1) (λ c. mul s (new c)) u
    → PlusRows g 0 (r + 1) (n + 1) (λ r c. mul (factor k (at g n) r) (new c)) u
unfolding at factor
cleared-next {g} {t} n k {r} s new p e q =
    let kept : get_or t (r * (n + 1) + k) 0 ≡ get_or g (r * (n + 1) + k) 0 = p.high (r * (n + 1) + k) (omega arith) in
    rows_next p (omega arith) (plus-cong (λ c l. ap (λ x. mul x (new c)) (e ∙ rw kept refl)) q)
