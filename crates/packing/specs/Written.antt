-- Writing into a packed stream: one element, or a run of them by a rule, and every other element stays. What loops that write elements have done so far.
-- Rests on Packing; what a stored byte writes, and that what is written fixes the stream, stands in proofs/Written.
use Rattle.std.specs.Prelude.{◌≡◌, refl, List, ℕ, ◌+◌, ◌-◌, ◌<◌, ◌≤◌, length}
use Rattle.std.proofs.Common.{sym, ap, subst, ◌∙◌, not-suc-le-zero, arith}
use Rattle.std.proofs.Math.Decide.{dec_lt}
use Rattle.packing.specs.Packing.{element}

-- t is s with x written as element e
pub record Put (s : List ℕ) (e x : ℕ) (t : List ℕ) : Type 0 where
  pub long : length t ≡ length s
  pub here : element t e ≡ x
  pub others : (k : ℕ) → (k ≡ e → ⊥) → element t k ≡ element s k

-- t is s with f 0, .. , f (n - 1) written as the elements base, .. , base + n - 1
pub record Written (s : List ℕ) (base n : ℕ) (f : ℕ → ℕ) (t : List ℕ) : Type 0 where
  pub long : length t ≡ length s
  pub inside : (k : ℕ) → k < n → element t (base + k) ≡ f k
  pub low : (k : ℕ) → k < base → element t k ≡ element s k
  pub high : (k : ℕ) → base + n ≤ k → element t k ≡ element s k

-- ---- a run of elements

pub written_none : {s : List ℕ} {base : ℕ} {f : ℕ → ℕ} → Written s base 0 f s
written_none = record { long = refl; inside = λ k h. absurd (not-suc-le-zero h); low = λ k h. refl; high = λ k h. refl }

-- one element more
pub written_next : {s t u : List ℕ} {base n x : ℕ} {f : ℕ → ℕ} → Written s base n f t → Put t (base + n) x u → x ≡ f n → Written s base (n + 1) f u
written_next {s} {t} {u} {base} {n} {x} {f} w p e =
    record {
      long = p.long ∙ w.long;
      inside = λ k h.
          elim (dec_lt k n) [
            | yes l ↦ p.others (base + k) (omega arith) ∙ w.inside k l
            | no l ↦ let at : k ≡ n = omega arith in ap (λ i. element u (base + i)) at ∙ p.here ∙ e ∙ ap f (sym at)
          ];
      low = λ k h. p.others k (omega arith) ∙ w.low k h;
      high = λ k h. p.others k (omega arith) ∙ w.high k (omega arith);
    }

-- the run is whole
pub written-end : {s t : List ℕ} {base i n : ℕ} {f : ℕ → ℕ} → Written s base i f t → i ≤ n → n ≤ i → Written s base n f t
written-end {s} {t} {base} {f = f} w h l = subst (λ k. Written s base k f t) (omega arith) w

-- the same run by another rule that agrees on it
pub written-cong : {s t : List ℕ} {base n : ℕ} {f g : ℕ → ℕ} → ((k : ℕ) → k < n → f k ≡ g k) → Written s base n f t → Written s base n g t
written-cong e w = record { long = w.long; inside = λ k l. w.inside k l ∙ e k l; low = w.low; high = w.high }

-- two runs, one right after the other, are one
pub written_then : {s t u : List ℕ} {base n m : ℕ} {f : ℕ → ℕ} → Written s base n f t → Written t (base + n) m (λ k. f (n + k)) u
    → Written s base (n + m) f u
written_then {s} {t} {u} {base} {n} {m} {f} v w =
    record {
      long = w.long ∙ v.long;
      inside = λ k h.
          elim (dec_lt k n) [
            | yes l ↦ w.low (base + k) (omega arith) ∙ v.inside k l
            | no l ↦
                let at : n + (k - n) ≡ k = omega arith in
                ap (element u) (omega arith) ∙ w.inside (k - n) (omega arith) ∙ ap f at
          ];
      low = λ k h. w.low k (omega arith) ∙ v.low k h;
      high = λ k h. w.high k (omega arith) ∙ v.high k (omega arith);
    }
