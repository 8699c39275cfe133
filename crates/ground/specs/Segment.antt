-- A part of a list is written by a rule, and all else stays: what a loop that writes a part of a slice has done so far.
-- Rests on Fill and on the kit's lists.
use Rattle.std.specs.Prelude.{◌≡◌, refl, List, ℕ, ◌+◌, ◌-◌, ◌<◌, ◌≤◌, length, get_or, set}
use Rattle.std.proofs.Common.{sym, ap, subst, ◌∙◌, zero-add, not-suc-le-zero, arith, length-set, get_or-set_same, get_or-set_other, ext_get_or}
use Rattle.std.proofs.Math.Decide.{dec_lt}
use Rattle.ground.specs.Fill.{tab, tab-ext}

-- t is s with f 0, .. , f (n - 1) written at the places base, .. , base + n - 1
pub record Segment (s : List ℕ) (base n : ℕ) (f : ℕ → ℕ) (t : List ℕ) : Type 0 where
  pub long : length t ≡ length s
  pub inside : (k : ℕ) → k < n → get_or t (base + k) 0 ≡ f k
  pub low : (k : ℕ) → k < base → get_or t k 0 ≡ get_or s k 0
  pub high : (k : ℕ) → base + n ≤ k → get_or t k 0 ≡ get_or s k 0

pub segment-none : {s : List ℕ} {base : ℕ} {f : ℕ → ℕ} → Segment s base 0 f s
segment-none = record { long = refl; inside = λ k h. absurd (not-suc-le-zero h); low = λ k h. refl; high = λ k h. refl }

-- one place more
pub segment-next : {s t : List ℕ} {base n : ℕ} {f : ℕ → ℕ} → Segment s base n f t → base + n < length s → (x : ℕ) → x ≡ f n
    → Segment s base (n + 1) f (set t (base + n) x)
segment-next {s} {t} {base} {n} {f} g l x e =
    record {
      long = length-set t (base + n) x ∙ g.long;
      inside = λ k h.
          elim (dec_lt k n) [
            | yes b ↦ get_or-set_other t (base + n) (base + k) x 0 (omega arith) ∙ g.inside k b
            | no b ↦
                let k-is : k ≡ n = omega arith in
                let at : base + n < length t = omega (arith, g.long) in
                ap (λ m. get_or (set t (base + n) x) (base + m) 0) k-is ∙ get_or-set_same t (base + n) x 0 at ∙ e ∙ ap f (sym k-is)
          ];
      low = λ k h. get_or-set_other t (base + n) k x 0 (omega arith) ∙ g.low k h;
      high = λ k h. get_or-set_other t (base + n) k x 0 (omega arith) ∙ g.high k (omega arith);
    }

-- the part, its rule and the list before fix the list after
pub segment-unique : {s t u : List ℕ} {base n : ℕ} {f : ℕ → ℕ} → Segment s base n f t → Segment s base n f u → t ≡ u
segment-unique {s} {t} {u} {base} {n} {f} a b = ext_get_or 0 t u (a.long ∙ sym b.long) place
  where
    place : (k : ℕ) → k < length t → get_or t k 0 ≡ get_or u k 0
    place k h =
        elim (dec_lt k base) [
          | yes l ↦ a.low k l ∙ sym (b.low k l)
          | no l ↦
              elim (dec_lt k (base + n)) [
                | yes m ↦
                    let e : base + (k - base) ≡ k = omega arith in
                    ap (λ x. get_or t x 0) (sym e) ∙ a.inside (k - base) (omega arith) ∙ sym (b.inside (k - base) (omega arith)) ∙ ap (λ x. get_or u x 0) e
                | no m ↦ a.high k (omega arith) ∙ sym (b.high k (omega arith))
              ]
        ]

-- the loop's last count is the one asked for
pub segment-end : {s t : List ℕ} {base i n : ℕ} {f : ℕ → ℕ} → Segment s base i f t → i ≤ n → n ≤ i → Segment s base n f t
segment-end {s} {t} {base} {f = f} g h l = subst (λ k. Segment s base k f t) (omega arith) g

-- ---- a list that a loop fills from its first place on

-- one place more
pub fill-next : {s t : List ℕ} {n : ℕ} {f : ℕ → ℕ} → Segment s 0 n f t → n < length s → (x : ℕ) → x ≡ f n → Segment s 0 (n + 1) f (set t n x)
fill-next {s} {t} {n} {f} g l x e = subst (λ k. Segment s 0 (n + 1) f (set t k x)) (zero-add n) (segment-next g (omega arith) x e)

-- and the whole list at the end
pub fill_end : {s t : List ℕ} {n m : ℕ} {f : ℕ → ℕ} → Segment s 0 n f t → length s ≡ m → n ≡ m → t ≡ tab m f
fill_end {s} {t} {n} {m} {f} g long all = tab-ext t m f (g.long ∙ long) (λ k l. ap (λ i. get_or t i 0) (sym (zero-add k)) ∙ g.inside k (omega arith))
