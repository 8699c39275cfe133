-- What the verdict accepts: a target that the public map meets in every entry (page 01, "Keys, signing, verdict").
-- What that says of the signature, of what signing emits and of zeros stands in proofs/Verdict. Rests on Maps.
use Rattle.std.specs.Prelude.{◌≡◌, Bool, true, List, ℕ, ◌*◌, ◌<◌}
use Rattle.std.proofs.Common.{ap}
use borrow.Author.Tests.{eq-eqb}
use Rattle.std.proofs.Math.Arith.{digits_lt}
use Rattle.std.proofs.Math.Dec.{eqb}
use Rattle.packing.specs.Packing.{element}
use Rattle.sets.specs.declared.Set.{Set}
use Rattle.matrix.specs.Matrix.{Matrix, zero_m}
use Rattle.matrix.specs.Same.{Same}
use Rattle.scheme.specs.Streams.{block_of, target_of, signature_of}
use Rattle.scheme.specs.Maps.{public_map, meets}
use Rattle.ground.specs.Tests.{every_true, every-cong}

module _ (set : Set) where
  -- accepted: every entry of every equation equals the target
  unfoldable pub accepted : (public abq key signature target : List ℕ) → Bool
  accepted public abq key signature target = meets set (public_map set public abq key (signature_of set signature)) target

-- ---- what `meets` says

module _ (set : Set) (map : ℕ → Matrix) (target : List ℕ) where
  pub entries-meet : ((i r c : ℕ) → i < set.o → r < set.l → c < set.l → map i r c ≡ target_of set target i r c) → meets set map target ≡ true
  unfolding meets
  entries-meet e = every_true set.o _ (λ i hi. every_true set.l _ (λ r hr. every_true set.l _ (λ c hc. eq-eqb _ _ (e i r c hi hr hc))))

-- `meets` reads the map's entries inside l only
pub meets-same : (set : Set) (map map' : ℕ → Matrix) (target : List ℕ) → ((i : ℕ) → i < set.o → Same set.l (map i) (map' i))
    → meets set map target ≡ meets set map' target
unfolding meets
meets-same set map map' target e =
    every-cong set.o _ _ (λ i hi. every-cong set.l _ _ (λ r hr. every-cong set.l _ _ (λ c hc. ap (λ x. eqb x (target_of set target i r c)) ((e i hi).at r c hr hc))))

-- ---- zeros

-- a stream of zero elements has zero blocks
pub zero-blocks : (l n : ℕ) (s : List ℕ) → ((e : ℕ) → e < n * (l * l) → element s e ≡ 0) → (b : ℕ) → b < n → Same l (block_of l s b) zero_m
unfolding block_of
zero-blocks l n s z b h = record { at = λ r c hr hc. z _ (digits_lt h (digits_lt hr hc)) }
