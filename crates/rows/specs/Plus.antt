-- A part of a byte row gains something: what every function of this crate does to the row that it is lent.
-- Rests on field's sums, and on algebra's finite sums for a loop that adds one term after the other.
use Rattle.std.specs.Prelude.{◌≡◌, refl, List, ℕ, ◌+◌, ◌-◌, ◌<◌, ◌≤◌, length, get_or, set}
use Rattle.std.proofs.Common.{sym, ap, ap₂, subst, ◌∙◌, not-suc-le-zero, le_refl, arith, length-set, get_or-set_same, get_or-set_other, ext_get_or}
use Rattle.std.proofs.Math.Decide.{dec_lt}
use Rattle.field.specs.Field.{add}
use Rattle.field.specs.Laws.{add_assoc, add-zero, zero-add, add-lt}
use Rattle.algebra.specs.Sum.{sum, sum-none, sum_more}
use Rattle.field.specs.FieldRing.{field-ring}

-- t is d with f 0, .. , f (n - 1) added at the places at, .. , at + n - 1
pub record Plus (d : List ℕ) (at n : ℕ) (f : ℕ → ℕ) (t : List ℕ) : Type 0 where
  pub long : length t ≡ length d
  pub inside : (k : ℕ) → k < n → get_or t (at + k) 0 ≡ add (get_or d (at + k) 0) (f k)
  pub low : (k : ℕ) → k < at → get_or t k 0 ≡ get_or d k 0
  pub high : (k : ℕ) → at + n ≤ k → get_or t k 0 ≡ get_or d k 0

-- ---- a loop that goes from byte to byte

pub plus_none : {d : List ℕ} {at : ℕ} {f : ℕ → ℕ} → Plus d at 0 f d
plus_none = record { long = refl; inside = λ k h. absurd (not-suc-le-zero h); low = λ k h. refl; high = λ k h. refl }

-- one byte more gains y
pub plus-next : {d t : List ℕ} {at n : ℕ} {f : ℕ → ℕ} → Plus d at n f t → at + n < length d → (y : ℕ) → y ≡ f n
    → Plus d at (n + 1) f (set t (at + n) (add (get_or t (at + n) 0) y))
plus-next {d} {t} {at} {n} {f} p l y e =
    record {
      long = length-set t (at + n) x ∙ p.long;
      inside = λ k h.
          elim (dec_lt k n) [
            | yes b ↦ get_or-set_other t (at + n) (at + k) x 0 (omega arith) ∙ p.inside k b
            | no b ↦
                let k-is : k ≡ n = omega arith in
                let here : at + n < length t = omega (arith, p.long) in
                let new : get_or (set t (at + n) x) (at + n) 0 ≡ add (get_or d (at + n) 0) (f n) =
                get_or-set_same t (at + n) x 0 here ∙ ap₂ add (p.high (at + n) (le_refl (at + n))) e in
                rw k-is new
          ];
      low = λ k h. get_or-set_other t (at + n) k x 0 (omega arith) ∙ p.low k h;
      high = λ k h. get_or-set_other t (at + n) k x 0 (omega arith) ∙ p.high k (omega arith);
    }
  where
    x : ℕ
    x = add (get_or t (at + n) 0) y

-- the loop's end
pub plus-end : {d t : List ℕ} {at i n : ℕ} {f : ℕ → ℕ} → Plus d at i f t → i ≤ n → n ≤ i → Plus d at n f t
plus-end {d} {t} {at} {f = f} p h l = subst (λ k. Plus d at k f t) (omega arith) p

-- the same gain by another rule that agrees on the part
pub plus-cong : {d t : List ℕ} {at n : ℕ} {f g : ℕ → ℕ} → ((k : ℕ) → k < n → f k ≡ g k) → Plus d at n f t → Plus d at n g t
plus-cong {d} {at = at} e p = record { long = p.long; inside = λ k l. p.inside k l ∙ ap (add (get_or d (at + k) 0)) (e k l); low = p.low; high = p.high }

-- the part, its rule and the row before fix the row after
pub plus-unique : {d t u : List ℕ} {at n : ℕ} {f : ℕ → ℕ} → Plus d at n f t → Plus d at n f u → t ≡ u
plus-unique {d} {t} {u} {at} {n} {f} p q = ext_get_or 0 t u (p.long ∙ sym q.long) place
  where
    place : (k : ℕ) → k < length t → get_or t k 0 ≡ get_or u k 0
    place k h =
        elim (dec_lt k at) [
          | yes l ↦ p.low k l ∙ sym (q.low k l)
          | no l ↦
              elim (dec_lt k (at + n)) [
                | yes m ↦
                    let e : at + (k - at) ≡ k = omega arith in
                    ap (λ x. get_or t x 0) (sym e) ∙ p.inside (k - at) (omega arith) ∙ sym (q.inside (k - at) (omega arith)) ∙ ap (λ x. get_or u x 0) e
                | no m ↦ p.high k (omega arith) ∙ sym (q.high k (omega arith))
              ]
        ]

-- ---- gains one after the other

-- the same part gains twice
pub plus-then : {d t u : List ℕ} {at n : ℕ} {f g : ℕ → ℕ} → Plus d at n f t → Plus t at n g u → Plus d at n (λ c. add (f c) (g c)) u
plus-then {g = g} p q =
    record {
      long = q.long ∙ p.long;
      inside = λ k l. q.inside k l ∙ ap (λ x. add x (g k)) (p.inside k l) ∙ add_assoc _ _ _;
      low = λ k l. q.low k l ∙ p.low k l;
      high = λ k l. q.high k l ∙ p.high k l;
    }

-- a loop that adds the terms of a sum: none so far
pub plus-sum-none : {d : List ℕ} {at n : ℕ} (g : ℕ → ℕ → ℕ) → Plus d at n (λ c. sum 0 add 0 (λ x. g x c)) d
plus-sum-none {d} {at} g =
    record {
      long = refl;
      inside = λ k l. sym (ap (add (get_or d (at + k) 0)) (sum-none field-ring (λ x. g x k)) ∙ add-zero _);
      low = λ k l. refl;
      high = λ k l. refl;
    }

-- one term more
pub plus-sum-next : {d t u : List ℕ} {at n k : ℕ} (g : ℕ → ℕ → ℕ) → Plus d at n (λ c. sum 0 add k (λ x. g x c)) t → Plus t at n (g k) u
    → Plus d at n (λ c. sum 0 add (k + 1) (λ x. g x c)) u
plus-sum-next {k = k} g p q = plus-cong (λ c l. sym (sum_more field-ring k (λ x. g x c))) (plus-then p q)

-- two parts, one right after the other, are one
pub plus-join : {d t u : List ℕ} {at n m : ℕ} {f : ℕ → ℕ} → Plus d at n f t → Plus t (at + n) m (λ k. f (n + k)) u → Plus d at (n + m) f u
plus-join {d} {t} {u} {at} {n} {m} {f} p q =
    record {
      long = q.long ∙ p.long;
      inside = λ k h.
          elim (dec_lt k n) [
            | yes l ↦ q.low (at + k) (omega arith) ∙ p.inside k l
            | no l ↦
                let k-is : k ≡ n + (k - n) = omega arith in
                let at-is : at + k ≡ at + n + (k - n) = omega arith in
                let new : get_or u (at + n + (k - n)) 0 ≡ add (get_or d (at + n + (k - n)) 0) (f (n + (k - n))) =
                q.inside (k - n) (omega arith) ∙ ap (λ x. add x (f (n + (k - n)))) (p.high (at + n + (k - n)) (omega arith)) in
                ap (λ x. get_or u x 0) at-is ∙ new ∙ ap₂ (λ x y. add (get_or d x 0) (f y)) (sym at-is) (sym k-is)
          ];
      low = λ k h. q.low k (omega arith) ∙ p.low k h;
      high = λ k h. q.high k (omega arith) ∙ p.high k (omega arith);
    }

-- ---- what a part holds after its gain

-- what was zero holds the gain itself
pub plus-zero-start : {d t : List ℕ} {at n : ℕ} {f : ℕ → ℕ} → Plus d at n f t → ((k : ℕ) → k < n → get_or d (at + k) 0 ≡ 0)
    → (k : ℕ) → k < n → get_or t (at + k) 0 ≡ f k
plus-zero-start {f = f} p z k l = p.inside k l ∙ ap (λ x. add x (f k)) (z k l) ∙ zero-add (f k)

-- elements that gain elements are elements
pub plus-lt : {d t : List ℕ} {at n : ℕ} {f : ℕ → ℕ} → Plus d at n f t → ((k : ℕ) → k < n → get_or d (at + k) 0 < 16) → ((k : ℕ) → k < n → f k < 16)
    → (k : ℕ) → k < n → get_or t (at + k) 0 < 16
plus-lt p hd hf k l = rw (p.inside k l) (add-lt _ _ (hd k l) (hf k l))
