-- The values of the public map as a buffer holds them: entry (r, c) of equation i at place i·l² + r·l + c.
-- Rests on scheme's public_map, and on terms' equation from a table of power sums.
use Rattle.std.specs.Prelude.{◌≡◌, refl, List, ℕ, ◌+◌, ◌*◌, ◌/◌, ◌%◌, ◌<◌, ◌≤◌, length, get_or}
use Rattle.std.proofs.Common.{ap₂, ◌∙◌, not-suc-le-zero, arith}
use Rattle.std.proofs.Math.Decide.{dec_lt}
use Rattle.std.proofs.Math.Arith.{digits_lt, digits_div, digits_mod}
use Rattle.ground.specs.Place.{row_fits}
use Rattle.ground.specs.Segment.{Segment}
use Rattle.sets.specs.declared.Set.{Set}
use Rattle.sets.specs.Sets.{public_bytes, key_bytes}
use Rattle.sets.specs.Bounds.{Bounds}
use Rattle.matrix.specs.Matrix.{Matrix}
use Rattle.matrix.specs.Same.{Same}
use Rattle.matrix.specs.Block.{view, block, holds, stride}
use Rattle.scheme.specs.Streams.{P22}
use Rattle.scheme.specs.Maps.{public_map}
use Rattle.streams.specs.TermOf.{AbqLent}
use Rattle.terms.specs.Terms.{equation_from}
use Rattle.terms.specs.FromSums.{public-from-sums}
use Rattle.public_map.specs.MapSums.{PowersOf, SumsOf}

-- the streams and the key of a map that can be evaluated: the set is allowed, the lengths are exact, and no A or B is refused
pub record MapLent (set : Set) (public abq key : List ℕ) : Type 0 where
  pub bounds : Bounds set
  pub public-long : length public ≡ public_bytes set
  pub abq-lent : AbqLent set abq
  pub key-long : length key ≡ key_bytes set

-- the first `count` of the matrices M stand in the buffer, and all behind them stays
pub record Puts (l count : ℕ) (M : ℕ → Matrix) (before after : List ℕ) : Type 0 where
  pub long : length after ≡ length before
  pub entry : (i r c : ℕ) → i < count → r < l → c < l → get_or after (i * (l * l) + (r * l + c)) 0 ≡ M i r c
  pub behind : (k : ℕ) → count * (l * l) ≤ k → get_or after k 0 ≡ get_or before k 0

-- the entries of the public map at U
abbrev pub MapValues : (set : Set) (public abq key : List ℕ) (U : ℕ → Matrix) (before after : List ℕ) → Type 0
MapValues set public abq key U before after = Puts set.l set.o (public_map set public abq key U) before after

-- ---- one matrix after the other

pub puts_none : {l : ℕ} {M : ℕ → Matrix} {d : List ℕ} → Puts l 0 M d d
puts_none = record { long = refl; entry = λ i r c h hr hc. absurd (not-suc-le-zero h); behind = λ k h. refl }

pub puts-next : {l i : ℕ} {M : ℕ → Matrix} {d t u b : List ℕ} → l ≤ stride → Puts l i M d t → b ≡ block l (M i)
    → Segment t (i * (l * l)) (l * l) (λ e. view b (e / l) (e % l)) u → Puts l (i + 1) M d u
puts-next {l} {i} {M} {d} {t} {u} {b} small p is s = record {
  long = s.long ∙ p.long;
  entry = λ x r c hx hr hc.
      let inside : r * l + c < l * l = digits_lt hr hc in
      elim (dec_lt x i) [
        | yes h ↦ s.low (x * (l * l) + (r * l + c)) (omega (arith, row_fits (l * l) h)) ∙ p.entry x r c h hr hc
        | no h ↦
            let here : x ≡ i = omega arith in
            rw here (s.inside (r * l + c) inside ∙ ap₂ (view b) (digits_div r hc) (digits_mod r hc) ∙ (holds {l = l} {M = M i} small is).at r c hr hc)
      ];
  behind = λ k h. s.high k (omega arith) ∙ p.behind k (omega arith);
}

-- the same entries
pub puts-same : {l count : ℕ} {M N : ℕ → Matrix} {d t : List ℕ} → Puts l count M d t → ((i : ℕ) → i < count → Same l (M i) (N i)) → Puts l count N d t
puts-same p e = record { long = p.long; entry = λ i r c hi hr hc. p.entry i r c hi hr hc ∙ (e i hi).at r c hr hc; behind = p.behind }

-- ---- the map's

pub map-values : {set : Set} {public abq key : List ℕ} → MapLent set public abq key → (U : ℕ → Matrix) {w sums before after : List ℕ}
    → PowersOf set w U → SumsOf set public key w sums → Puts set.l set.o (equation_from set abq sums) before after
    → MapValues set public abq key U before after
map-values {set} {public} {abq} {key} m U hw hs p =
    let positive : 0 < set.l = omega (arith, m.bounds.limits.l-least) in
    puts-same p (λ i hi. public-from-sums m.bounds abq public positive (P22 set key) (hs.sums U hw) i hi)
