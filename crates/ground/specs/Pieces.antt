-- A list that is written piece by piece: a part behind a part is one part, and a part that was lent and came back.
-- Rests on Segment and on the kit's lists.
use Rattle.std.specs.Prelude.{◌≡◌, List, ◌++◌, ℕ, ◌+◌, ◌-◌, ◌<◌, ◌≤◌, length, get_or, take, drop}
use Rattle.std.proofs.Common.{sym, ap, subst, ◌∙◌, zero-add, arith, length-drop, length-take-le, get_or-take, get_or-drop, get_or-append-add}
use Rattle.std.proofs.Math.Decide.{dec_lt}
use Rattle.std.proofs.Math.ListN.{get_or-append}
use borrow.Rule.Slice.PartMut.{mid_of, put_mid, same_len_mid}
use Rattle.ground.specs.Segment.{Segment}

-- a part, and then the part behind it
pub segment-then : {s t u : List ℕ} {base n m : ℕ} {f g : ℕ → ℕ} → Segment s base n f t → Segment t (base + n) m g u
    → ((d : ℕ) → d < m → g d ≡ f (n + d)) → Segment s base (n + m) f u
segment-then {s} {t} {u} {base} {n} {m} {f} {g} p q e =
    record {
      long = q.long ∙ p.long;
      inside = λ k h.
          elim (dec_lt k n) [
            | yes l ↦ q.low (base + k) (omega arith) ∙ p.inside k l
            | no l ↦
                let rest : n + (k - n) ≡ k = omega arith in
                let here : base + n + (k - n) ≡ base + k = omega arith in
                ap (λ x. get_or u x 0) (sym here) ∙ q.inside (k - n) (omega arith) ∙ e (k - n) (omega arith) ∙ ap f rest
          ];
      low = λ k h. q.low k (omega arith) ∙ p.low k h;
      high = λ k h. q.high k (omega arith) ∙ p.high k (omega arith);
    }

-- from the list's first place on
pub fill-then : {s t u : List ℕ} {n m : ℕ} {f g : ℕ → ℕ} → Segment s 0 n f t → Segment t n m g u → ((d : ℕ) → d < m → g d ≡ f (n + d)) → Segment s 0 (n + m) f u
fill-then {t = t} {u} {n} {m} {g = g} p q e = segment-then p (subst (λ b. Segment t b m g u) (sym (zero-add n)) q) e

-- a part that was lent and came back as ys
pub segment-put : (a k : ℕ) (s ys : List ℕ) (f : ℕ → ℕ) → a + k ≤ length s → length ys ≡ k → ((d : ℕ) → d < k → get_or ys d 0 ≡ f d) → Segment s a k f (put_mid a k s ys)
segment-put a k s ys f fits long h =
    record {
      long = same_len_mid a k s ys (long ∙ sym mid);
      inside = λ d l. at d ∙ get_or-append ys behind 0 d (omega arith) ∙ h d l;
      low = λ i l. get_or-append (take a s) (ys ++ behind) 0 i (omega (arith, front)) ∙ get_or-take a s i 0 l;
      high = λ i l.
          let here : i ≡ a + (k + (i - (a + k))) = omega arith in
          let back : a + (k + (i - (a + k))) ≡ i = omega arith in
          ap (λ x. get_or (put_mid a k s ys) x 0) here ∙ at (k + (i - (a + k))) ∙ ap (λ n. get_or (ys ++ behind) (n + (i - (a + k))) 0) (sym long)
          ∙ get_or-append-add ys behind (i - (a + k)) 0 ∙ get_or-drop k (drop a s) (i - (a + k)) 0 ∙ get_or-drop a s (k + (i - (a + k))) 0 ∙ ap (λ x. get_or s x 0) back;
    }
  where
    behind : List ℕ
    behind = drop k (drop a s)

    front : length (take a s) ≡ a
    front = length-take-le a s (omega arith)

    mid : length (mid_of a k s) ≡ k
    mid = length-take-le k (drop a s) (omega (arith, length-drop a s))

    at : (d : ℕ) → get_or (put_mid a k s ys) (a + d) 0 ≡ get_or (ys ++ behind) d 0
    at d = ap (λ n. get_or (put_mid a k s ys) (n + d) 0) (sym front) ∙ get_or-append-add (take a s) (ys ++ behind) d 0
