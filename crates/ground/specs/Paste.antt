-- A part of a list is replaced by another list of the same length; parts pasted one after the other are one part.
-- Rests on Segment and on the kit's lists.
use Rattle.std.specs.Prelude.{◌≡◌, List, [], ◌∷◌, ◌++◌, ℕ, ◌+◌, ◌-◌, ◌<◌, ◌≤◌, length, get_or, take, drop, set}
use Rattle.std.proofs.Common.{sym, ap, ap₂, ◌∙◌, append_assoc, append-nil, zero-add, add-zero, arith, length-append, length-take, length-drop, take-append-drop, take_at, drop_at, drop-drop, length-take-le, get_or-append-add, get_or-take, get_or-drop, ext_get_or, add-one}
use borrow.Rule.Slice.PartMut.{put_mid}
use Rattle.std.proofs.Math.Decide.{dec_lt}
use Rattle.std.proofs.Math.ListN.{get_or-append}
use Rattle.std.proofs.Math.Seq.{drop-length}
use Rattle.std.proofs.lemmas.List.{set_split}
use Rattle.ground.specs.Segment.{Segment}

-- t is s with x from place `at` on
pub record Pasted (s : List ℕ) (at : ℕ) (x t : List ℕ) : Type 0 where
  pub fits : at + length x ≤ length s
  pub is : t ≡ take at s ++ (x ++ drop (at + length x) s)

pub length-pasted : {s x t : List ℕ} {at : ℕ} → Pasted s at x t → length t ≡ length s
length-pasted {s} {x} {t} {at} p = rw p.is (simp (length-append, length-take, length-drop) (omega (arith, p.fits)))

pub pasted-none : (s : List ℕ) (at : ℕ) → at ≤ length s → Pasted s at [] s
pasted-none s at l = record { fits = omega arith; is = rw (add-zero at) (sym (take-append-drop at s)) }

pub pasted-then : {s x y t u : List ℕ} {at to : ℕ} → Pasted s at x t → to ≡ at + length x → Pasted t to y u → Pasted s at (x ++ y) u
pasted-then {s} {x} {y} {t} {u} {at} {to} p e q =
    let front : length (take at s ++ x) ≡ to = length-append (take at s) x ∙ omega (arith, length-take-le at s (omega (arith, p.fits))) in
    let shape : t ≡ (take at s ++ x) ++ drop to s = p.is ∙ sym (append_assoc (take at s) x (drop (at + length x) s)) ∙ ap (λ n. (take at s ++ x) ++ drop n s) (sym e) in
    let first : take to t ≡ take at s ++ x = ap (take to) shape ∙ take_at (take at s ++ x) (drop to s) to front in
    let rest : drop (to + length y) t ≡ drop (to + length y) s
    = sym (drop-drop (length y) to t) ∙ ap (λ l. drop (length y) (drop to l)) shape ∙ ap (drop (length y)) (drop_at (take at s ++ x) (drop to s) to front) ∙ drop-drop (length y) to s in
    let end : to + length y ≡ at + length (x ++ y) = sym (ap (λ n. at + n) (length-append x y) ∙ omega arith) in
    record {
      fits = omega (arith, q.fits, length-pasted p);
      is = q.is
          ∙ ap₂ (λ f r. f ++ (y ++ r)) first (rest ∙ ap (λ n. drop n s) end)
          ∙ append_assoc (take at s) x (y ++ drop (at + length (x ++ y)) s)
          ∙ ap (λ l. take at s ++ l) (sym (append_assoc x y (drop (at + length (x ++ y)) s)));
    }

pub pasted-all : {s x t : List ℕ} → Pasted s 0 x t → length x ≡ length s → t ≡ x
pasted-all {s} {x} {t} p e =
    let none : drop (0 + length x) s ≡ [] = ap (λ n. drop n s) (zero-add (length x) ∙ e) ∙ drop-length s in
    p.is ∙ ap (λ l. x ++ l) none ∙ append-nil x

-- a part that was lent, and came back as x
pub pasted-mid : {s x y : List ℕ} (at k : ℕ) → y ≡ x → length x ≡ k → at + k ≤ length s → Pasted s at x (put_mid at k s y)
pasted-mid {s} {x} {y} at k e l fits = record { fits = omega arith; is = rw (e, drop-drop k at s, l) }

-- one place set
pub pasted-one : (s : List ℕ) (i x : ℕ) → i < length s → Pasted s i (x ∷ []) (set s i x)
pasted-one s i x l = record { fits = omega arith; is = set_split s i x l ∙ ap (λ n. take i s ++ (x ∷ drop n s)) (sym (add-one i)) }

-- a list is pasted where its elements are written one by one
module _ {s t : List ℕ} (x : List ℕ) {at : ℕ} (g : Segment s at (length x) (λ k. get_or x k 0) t) (l : at + length x ≤ length s) where
  front : length (take at s) ≡ at
  front = length-take-le at s (omega arith)

  pasted_at : (k : ℕ) → get_or t k 0 ≡ get_or (take at s ++ (x ++ drop (at + length x) s)) k 0
  pasted_at k =
      elim (dec_lt k at) [
        | yes h ↦ g.low k h ∙ sym (get_or-append (take at s) (x ++ drop (at + length x) s) 0 k (omega (arith, front)) ∙ get_or-take at s k 0 h)
        | no h ↦
            let e : length (take at s) + (k - at) ≡ k = omega (arith, front) in
            let past : get_or (take at s ++ (x ++ drop (at + length x) s)) k 0 ≡ get_or (x ++ drop (at + length x) s) (k - at) 0
            = ap (λ n. get_or (take at s ++ (x ++ drop (at + length x) s)) n 0) (sym e) ∙ get_or-append-add (take at s) (x ++ drop (at + length x) s) (k - at) 0 in
            elim (dec_lt (k - at) (length x)) [
              | yes m ↦
                  let i : at + (k - at) ≡ k = omega arith in
                  ap (λ n. get_or t n 0) (sym i) ∙ g.inside (k - at) m ∙ sym (past ∙ get_or-append x (drop (at + length x) s) 0 (k - at) m)
              | no m ↦
                  let i : length x + (k - at - length x) ≡ k - at = omega arith in
                  let j : at + length x + (k - at - length x) ≡ k = omega arith in
                  g.high k (omega arith)
                  ∙ ap (λ n. get_or s n 0) (sym j)
                  ∙ sym
                  (past
                  ∙ ap (λ n. get_or (x ++ drop (at + length x) s) n 0) (sym i)
                  ∙ get_or-append-add x (drop (at + length x) s) (k - at - length x) 0
                  ∙ get_or-drop (at + length x) s (k - at - length x) 0)
            ]
      ]

  pub segment-pasted : Pasted s at x t
  segment-pasted = record {
    fits = l;
    is = ext_get_or 0 t (take at s ++ (x ++ drop (at + length x) s)) (g.long ∙ sym (simp (length-append, length-take, length-drop) (omega arith))) (λ k h. pasted_at k);
  }
