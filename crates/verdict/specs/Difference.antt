-- The first place where two rows of values differ, and that the verdict is that there is none.
-- Rests on scheme's `accepted` and on public_map's values.
use Rattle.std.specs.Prelude.{◌≡◌, refl, Bool, true, false, List, ℕ, ◌+◌, ◌*◌, ◌<◌, ◌≤◌, eqb}
use Rattle.std.proofs.Math.Path.{sym}
use Rattle.std.proofs.Common.{◌∙◌, not-suc-le-zero, eq-eqb, ne_eqb}
use Rattle.std.proofs.Math.Nat.{mul-le-mul_right}
use Rattle.std.proofs.Math.Decide.{dec_lt}
use native.Mathlib.Omega.{arith}
use Rattle.std.proofs.Math.ListN.{get_or}
use Rattle.packing.specs.Packing.{element}
use Rattle.sets.specs.declared.Set.{Set}
use Rattle.sets.specs.Sets.{variables, target_count}
use Rattle.sets.specs.Bounds.{Bounds}
use Rattle.matrix.specs.Same.{same_refl}
use Rattle.scheme.specs.Streams.{block_of, target_of, signature_of}
use Rattle.scheme.specs.Entries.{by-entry, public_map_with-same}
use Rattle.scheme.specs.Verdict.{accepted}
use Rattle.scheme.proofs.Verdict.{accepted-exactly}
use Rattle.tables.specs.Unpacked.{Unpacked, list_of, unpacked-list}
use Rattle.public_map.specs.Values.{MapValues, puts-same}

-- r is the first place below n where x and y differ, or n where they agree at every place below n
pub record FirstDifference (n : ℕ) (x y : ℕ → ℕ) (r : ℕ) : Type 0 where
  pub upto : r ≤ n
  pub earlier : (k : ℕ) → k < r → x k ≡ y k
  pub here : r < n → x r ≡ y r → ⊥

-- there is one such place
pub unique-difference : {n r r' : ℕ} {x y : ℕ → ℕ} → FirstDifference n x y r → FirstDifference n x y r' → r ≡ r'
unique-difference {n} {r} {r'} p q =
    elim (dec_lt r r') [
      | yes h ↦ absurd (p.here (omega (arith, q.upto)) (q.earlier r h))
      | no h ↦ elim (dec_lt r' r) [ yes k ↦ absurd (q.here (omega (arith, p.upto)) (p.earlier r' k)) | no k ↦ omega arith ]
    ]

-- ---- the search

-- the first e places agree
pub record Agreeing (n : ℕ) (x y : ℕ → ℕ) (e : ℕ) : Type 0 where
  pub upto : e ≤ n
  pub so_far : (k : ℕ) → k < e → x k ≡ y k

pub agreeing-none : {n : ℕ} {x y : ℕ → ℕ} → Agreeing n x y 0
agreeing-none = record { upto = omega arith; so_far = λ k h. absurd (not-suc-le-zero h) }

pub agreeing-next : {n e : ℕ} {x y : ℕ → ℕ} → Agreeing n x y e → e < n → x e ≡ y e → Agreeing n x y (e + 1)
agreeing-next {n} {e} {x} {y} p h same = record {
  upto = omega arith;
  so_far = λ k hk. elim (dec_lt k e) [ yes b ↦ p.so_far k b | no b ↦ let at : k ≡ e = omega arith in rw at same ];
}

pub agreeing-stops : {n e : ℕ} {x y : ℕ → ℕ} → Agreeing n x y e → (x e ≡ y e → ⊥) → FirstDifference n x y e
agreeing-stops p other = record { upto = p.upto; earlier = p.so_far; here = λ h. other }

pub agreeing-end : {n e : ℕ} {x y : ℕ → ℕ} → Agreeing n x y e → n ≤ e → FirstDifference n x y n
agreeing-end p h = record { upto = omega arith; earlier = λ k hk. p.so_far k (omega arith); here = λ below. absurd (omega arith) }

-- ---- the verdict is that there is none

-- the map at an unpacked signature is the map at the signature
pub signature-values : {set : Set} → Bounds set → (public abq key signature : List ℕ) {m : ℕ} {before list d values : List ℕ} → variables set * (set.l * set.l) ≤ m
    → Unpacked signature m before list → MapValues set public abq key (list_of set.l list) d values → MapValues set public abq key (signature_of set signature) d values
unfolding signature_of
signature-values {set} b public abq key signature {m} fits u p =
    puts-same p (λ i hi. public_map_with-same set public abq (λ i j k hi hj hk. same_refl)
    (λ j hj. unpacked-list u set.l j (let next : j + 1 ≤ variables set = omega arith in omega (arith, mul-le-mul_right (set.l * set.l) next))) i hi)

module _ {set : Set} (b : Bounds set) (public abq key signature target : List ℕ) {n r : ℕ} {d values : List ℕ} (n-is : n ≡ target_count set)
    (p : MapValues set public abq key (signature_of set signature) d values) (f : FirstDifference n (λ e. get_or values e 0) (element target) r) where
  -- no place differs: every entry equals the target's
  none-accepted : r ≡ n → accepted set public abq key signature target ≡ true
  unfolding target_of block_of target_count
  none-accepted none =
      (accepted-exactly set public abq key signature target).1
      (λ i row column hi hr hc. sym (p.entry i row column hi hr hc) ∙ f.earlier (i * (set.l * set.l) + (row * set.l + column)) (place i row column hi hr hc))
    where
      place : (i row column : ℕ) → i < set.o → row < set.l → column < set.l → i * (set.l * set.l) + (row * set.l + column) < r
      place i row column hi hr hc =
          let next_row : row + 1 ≤ set.l = omega arith in
          let next : i + 1 ≤ set.o = omega arith in
          omega (arith, mul-le-mul_right set.l next_row, mul-le-mul_right (set.l * set.l) next, none, n-is, b.counts.target)

  -- one differs: not every entry does
  one-not-accepted : (r ≡ n → ⊥) → accepted set public abq key signature target ≡ true → ⊥
  unfolding target_of block_of target_count
  one-not-accepted some ok =
      let below : r < n = omega (arith, f.upto, some) in
      f.here below (by-entry set.l set.o (λ e. get_or values e 0 ≡ element target e)
      (λ i row column hi hr hc. p.entry i row column hi hr hc ∙ (accepted-exactly set public abq key signature target).0 ok i row column hi hr hc) r (omega (arith, n-is, b.counts.target)))

  pub compared-accepted : {t : Bool} → t ≡ eqb r n → t ≡ accepted set public abq key signature target
  compared-accepted {t} e = by (accepted set public abq key signature target) refl
    where
      by : (ok : Bool) → accepted set public abq key signature target ≡ ok → t ≡ ok
      by true ok =
          elim (dec_lt r n) [
            | yes h ↦ absurd (one-not-accepted (λ z. omega arith) ok)
            | no h ↦ e ∙ eq-eqb r n (omega (arith, f.upto))
          ]
      by false no_Ok = e ∙ ne_eqb r n (λ z. let both : ◌≡◌ {A = Bool} true false = sym (none-accepted z) ∙ no_Ok in let bad : ◌≡◌ {A = ℕ} 0 1 = cc in omega arith)
