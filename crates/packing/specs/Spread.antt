-- The elements of some bytes of a packed stream, one to a byte.
-- Rests on packing's elements.
use Rattle.std.specs.Prelude.{◌≡◌, refl, List, ℕ, ◌+◌, ◌*◌, ◌<◌, ◌≤◌, length, get_or, set}
use Rattle.std.proofs.Common.{ap, subst, ◌∙◌, not-suc-le-zero, arith, length-set, get_or-set_same, get_or-set_other}
use Rattle.std.proofs.Math.Decide.{dec_lt}
use Rattle.packing.specs.Packing.{element}

-- after is before with the elements of n bytes, from byte `from` on, in its first 2·n places
pub record Spread (stream : List ℕ) (from n : ℕ) (before after : List ℕ) : Type 0 where
  pub long : length after ≡ length before
  pub elements : (e : ℕ) → e < 2 * n → get_or after e 0 ≡ element stream (2 * from + e)
  pub behind : (e : ℕ) → 2 * n ≤ e → get_or after e 0 ≡ get_or before e 0

-- ---- a loop that goes from byte to byte

pub spread_none : {stream : List ℕ} {from : ℕ} {d : List ℕ} → Spread stream from 0 d d
spread_none = record { long = refl; elements = λ e h. absurd (not-suc-le-zero h); behind = λ e h. refl }

-- the two elements of one byte more
pub spread-next : {stream : List ℕ} {from k : ℕ} {d t : List ℕ} → Spread stream from k d t → 2 * k + 1 < length d → (low high : ℕ)
    → low ≡ element stream (2 * (from + k)) → high ≡ element stream (2 * (from + k) + 1) → Spread stream from (k + 1) d (set (set t (2 * k) low) (2 * k + 1) high)
spread-next {stream} {from} {k} {d} {t} p l low high low-is high_is = record {
  long = length-set u (2 * k + 1) high ∙ long-u;
  elements = λ x h.
      elim (dec_lt x (2 * k)) [
        | yes h1 ↦ get_or-set_other u (2 * k + 1) x high 0 (omega arith) ∙ get_or-set_other t (2 * k) x low 0 (omega arith) ∙ p.elements x h1
        | no h1 ↦
            elim (dec_lt x (2 * k + 1)) [
              | yes h2 ↦ let x-is : x ≡ 2 * k = omega arith in rw x-is first
              | no h2 ↦ let x-is : x ≡ 2 * k + 1 = omega arith in rw x-is second
            ]
      ];
  behind = λ x h. get_or-set_other u (2 * k + 1) x high 0 (omega arith) ∙ get_or-set_other t (2 * k) x low 0 (omega arith) ∙ p.behind x (omega arith);
}
  where
    u : List ℕ
    u = set t (2 * k) low

    long-u : length u ≡ length d
    long-u = length-set t (2 * k) low ∙ p.long

    first : get_or (set u (2 * k + 1) high) (2 * k) 0 ≡ element stream (2 * from + 2 * k)
    first =
        get_or-set_other u (2 * k + 1) (2 * k) high 0 (omega arith) ∙ get_or-set_same t (2 * k) low 0 (omega (arith, p.long)) ∙ low-is
        ∙ ap (element stream) (omega arith)

    second : get_or (set u (2 * k + 1) high) (2 * k + 1) 0 ≡ element stream (2 * from + (2 * k + 1))
    second = get_or-set_same u (2 * k + 1) high 0 (omega (arith, long-u)) ∙ high_is ∙ ap (element stream) (omega arith)

pub spread_end : {stream : List ℕ} {from k n : ℕ} {d t : List ℕ} → Spread stream from k d t → k ≤ n → n ≤ k → Spread stream from n d t
spread_end {stream} {from} {d = d} {t = t} p h l = subst (λ x. Spread stream from x d t) (omega arith) p
