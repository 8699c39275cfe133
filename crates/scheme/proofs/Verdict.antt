-- What the verdict accepts: a target that the public map meets in every entry (page 01, "Keys, signing, verdict").
-- A signature of zeros is accepted exactly for a target of zeros. Rests on specs/Verdict, Entries and Key.
use Rattle.std.specs.Prelude.{◌≡◌, refl, true, ◌↔◌, List, ℕ, ◌*◌, ◌<◌}
use Rattle.std.proofs.Common.{sym, ◌∙◌, eqb-true}
use Rattle.std.proofs.Math.Arith.{digits_lt}
use Rattle.std.proofs.Math.Dec.{eqb}
use Rattle.ground.specs.Tests.{every}
use Rattle.algebra.specs.Map.{value-zero}
use Rattle.packing.specs.Packing.{element}
use Rattle.sets.specs.declared.Set.{Set}
use Rattle.sets.specs.Sets.{terms, variables, target_count, signature_count}
use Rattle.matrix.specs.Matrix.{Matrix, zero_m}
use Rattle.matrix.specs.MatrixRing.{matrices}
use Rattle.matrix.specs.Same.{Same, same_refl, same-trans, same-equal}
use Rattle.scheme.specs.Streams.{block_of, P22, target_of, signature_of}
use Rattle.scheme.specs.Maps.{equation, public_map_with, public_map, central_map, private_change, key_of, meets}
use Rattle.scheme.proofs.Composition.{private-change-own-inverse}
use Rattle.scheme.specs.Entries.{by-entry, public_map_with-same, central_map-same}
use Rattle.scheme.proofs.Entries.{private_change-same}
use Rattle.scheme.proofs.KeyLaws.{key-composition}
use Rattle.ground.specs.Tests.{every-at}
use Rattle.scheme.specs.Verdict.{accepted, entries-meet, meets-same, zero-blocks}

-- ---- what `meets` says

module _ (set : Set) (map : ℕ → Matrix) (target : List ℕ) where
  meets-entry : meets set map target ≡ true → (i r c : ℕ) → i < set.o → r < set.l → c < set.l → map i r c ≡ target_of set target i r c
  unfolding meets
  meets-entry e i r c hi hr hc =
      eqb-true _ _
      (every-at set.l (λ c. eqb (map i r c) (target_of set target i r c))
      (every-at set.l (λ r. every set.l (λ c. eqb (map i r c) (target_of set target i r c)))
      (every-at set.o (λ i. every set.l (λ r. every set.l (λ c. eqb (map i r c) (target_of set target i r c)))) e i hi) r hr) c hc)

  meets-exactly : (meets set map target ≡ true) ↔ ((i r c : ℕ) → i < set.o → r < set.l → c < set.l → map i r c ≡ target_of set target i r c)
  meets-exactly = (meets-entry, entries-meet set map target)

pub accepted-exactly : (set : Set) (public abq key signature target : List ℕ)
    → (accepted set public abq key signature target ≡ true)
    ↔ ((i r c : ℕ) → i < set.o → r < set.l → c < set.l
    → public_map set public abq key (signature_of set signature) i r c ≡ target_of set target i r c)
unfolding accepted
accepted-exactly set public abq key signature target = meets-exactly set (public_map set public abq key (signature_of set signature)) target

-- ---- the verdict reads the signature's elements, and nothing behind them: not the salt, and no spare half

pub accepted-elements : (set : Set) (public abq key target signature signature' : List ℕ) → ((e : ℕ) → e < signature_count set → element signature e ≡ element signature' e)
    → accepted set public abq key signature target ≡ accepted set public abq key signature' target
unfolding accepted signature_of signature_count block_of
accepted-elements set public abq key target signature signature' same =
    meets-same set _ _ target (λ i hi. public_map_with-same set public abq (λ i j k hi hj hk. same_refl)
    (λ j hj. record { at = λ r c hr hc. same _ (digits_lt hj (digits_lt hr hc)) }) i hi)

-- ---- the verdict on what signing emits, by the central map

module _ (set : Set) (public abq private signature target : List ℕ) where
  -- with the generated key, the verdict is that of the central map at the private change
  accepted-central : accepted set public abq (key_of set public private) signature target
      ≡ meets set (central_map set public abq private (private_change set private (signature_of set signature))) target
  unfolding accepted
  accepted-central = meets-same set _ _ target (λ i h. key-composition set public abq private (signature_of set signature) i h)

  -- a signature that holds the private change of X is accepted exactly where the central map at X meets the target
  pub accepted-change : (X : ℕ → Matrix) → ((j : ℕ) → j < variables set → Same set.l (signature_of set signature j) (private_change set private X j))
      → accepted set public abq (key_of set public private) signature target ≡ meets set (central_map set public abq private X) target
  accepted-change X e =
      accepted-central
      ∙ meets-same set _ _ target
      (λ i h. central_map-same set public abq private
      (λ j l. same-trans (private_change-same set private e j l) (same-equal (private-change-own-inverse set private X j))) i)

-- ---- zeros

-- and each element stands in a block
zero-elements : (l n : ℕ) (s : List ℕ) → ((b : ℕ) → b < n → Same l (block_of l s b) zero_m) → (e : ℕ) → e < n * (l * l) → element s e ≡ 0
unfolding block_of
zero-elements l n s z = by-entry l n (λ e. element s e ≡ 0) (λ b r c hb hr hc. (z b hb).at r c hr hc)

-- the public map at zero is zero
public_map-zero : (set : Set) (public abq : List ℕ) (P22s : ℕ → ℕ → ℕ → Matrix) (i : ℕ) → public_map_with set public abq P22s (λ j. zero_m) i ≡ zero_m
unfolding public_map_with equation
public_map-zero set public abq P22s i = value-zero (matrices set.l) (terms set) (variables set) _ _ _ _ _ (λ j h. refl)

module _ (set : Set) (public abq key signature target : List ℕ) (zeros : (e : ℕ) → e < signature_count set → element signature e ≡ 0) where
  zero-map : (i : ℕ) → i < set.o → Same set.l (public_map set public abq key (signature_of set signature) i) zero_m
  unfolding signature_of signature_count
  zero-map i hi =
      same-trans (public_map_with-same set public abq (λ i j k hi hj hk. same_refl) (zero-blocks set.l (variables set) signature zeros) i hi)
      (same-equal (public_map-zero set public abq (P22 set key) i))

  -- Zero signature elements: accepted exactly for a target whose entries are all 0.
  pub zero_signature : (accepted set public abq key signature target ≡ true)
      ↔ ((i r c : ℕ) → i < set.o → r < set.l → c < set.l → target_of set target i r c ≡ 0)
  zero_signature =
      let A = accepted-exactly set public abq key signature target in (
        λ e i r c hi hr hc. sym (A.0 e i r c hi hr hc) ∙ (zero-map i hi).at r c hr hc,
        λ z. A.1 (λ i r c hi hr hc. (zero-map i hi).at r c hr hc ∙ sym (z i r c hi hr hc)),
      )

  -- the same of the target's elements
  pub zero-signature-elements : (accepted set public abq key signature target ≡ true) ↔ ((e : ℕ) → e < target_count set → element target e ≡ 0)
  unfolding target_of target_count
  zero-signature-elements = (
    λ e. zero-elements set.l set.o target (λ i hi. record { at = λ r c hr hc. zero_signature.0 e i r c hi hr hc }),
    λ z. zero_signature.1 (λ i r c hi hr hc. (zero-blocks set.l set.o target z i hi).at r c hr hc),
  )
