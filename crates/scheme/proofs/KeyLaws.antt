-- The generated key holds P22, so the public map that reads it is the central map at the private change, entry by entry inside l.
-- Nothing is asked of the set, of the streams or of U: an index or an entry in range says what is needed.
-- Rests on Composition and Entries, on specs/Key, on packing's laws and on the kit's digits.
use Rattle.std.specs.Prelude.{◌≡◌, List, ℕ, ◌+◌, ◌*◌, ◌<◌}
use Rattle.std.proofs.Common.{◌∙◌, arith}
use Rattle.std.proofs.Math.Arith.{digits_lt}
use Rattle.ground.specs.Fill.{tab, get_or-tab}
use Rattle.packing.specs.Packing.{element, packed}
use Rattle.packing.proofs.Laws.{element-packed}
use Rattle.sets.specs.declared.Set.{Set}
use Rattle.sets.specs.Sets.{key_count}
use Rattle.matrix.specs.Matrix.{Matrix}
use Rattle.matrix.specs.Same.{Same, same_refl, same-trans, same-equal}
use Rattle.scheme.specs.Streams.{block_of, p22_number, P22}
use Rattle.scheme.specs.Maps.{key_p22, public_map_with, public_map, central_map, private_change, key_element, key_of}
use Rattle.scheme.proofs.Composition.{composition}
use Rattle.scheme.specs.Entries.{public_map_with-same}
use Rattle.scheme.specs.Key.{tab-in-field, key_element-lt, key_element-at}

-- A stream that is made of elements by a rule: every element is read back.
element-tab : (n : ℕ) (f : ℕ → ℕ) → ((e : ℕ) → f e < 16) → (e : ℕ) → e < n → element (packed (tab n f)) e ≡ f e
element-tab n f small e h = element-packed (tab n f) (tab-in-field n f small) e ∙ get_or-tab n f e h

module _ (set : Set) (public private : List ℕ) where
  -- element e of the key
  key_of-element : (e : ℕ) → e < key_count set → element (key_of set public private) e ≡ key_element set public private e
  unfolding key_of
  key_of-element e h = element-tab (key_count set) (key_element set public private) (key_element-lt set public private) e h

  module _ {i j k r c : ℕ} (hi : i < set.o) (hj : j < set.o) (hk : k < set.o) (hr : r < set.l) (hc : c < set.l) where
    -- entry (r, c) of block (i, j, k) is an element of the key
    key_number-lt : p22_number set i j k * (set.l * set.l) + (r * set.l + c) < key_count set
    unfolding key_count
    key_number-lt = digits_lt (digits_lt (digits_lt hi hj) hk) (digits_lt hr hc)

  -- The key holds P22.
  pub key_of-holds : (i j k : ℕ) → i < set.o → j < set.o → k < set.o
      → Same set.l (P22 set (key_of set public private) i j k) (key_p22 set public private i j k)
  unfolding P22 block_of
  key_of-holds i j k hi hj hk =
      record { at = λ r c hr hc. key_of-element _ (key_number-lt hi hj hk hr hc) ∙ key_element-at set public private hi hj hk hr hc }

  module _ (abq : List ℕ) (U : ℕ → Matrix) (i : ℕ) (below : i < set.o) where
    -- The composition for any P22 with the generated entries.
    composition-with : (P22s : ℕ → ℕ → ℕ → Matrix)
        → ((i j k : ℕ) → i < set.o → j < set.o → k < set.o → Same set.l (P22s i j k) (key_p22 set public private i j k))
        → Same set.l (public_map_with set public abq P22s U i) (central_map set public abq private (private_change set private U) i)
    composition-with P22s e =
        record {
          at = λ r c hr hc.
              (same-trans (public_map_with-same set public abq e (λ j h. same_refl) i below) (same-equal (composition set (omega arith) public abq private U i))).at r c hr hc;
        }

    -- for any key with those entries, whatever stands in a spare half
    key-composition-of : (key : List ℕ)
        → ((i j k : ℕ) → i < set.o → j < set.o → k < set.o → Same set.l (P22 set key i j k) (key_p22 set public private i j k))
        → Same set.l (public_map set public abq key U i) (central_map set public abq private (private_change set private U) i)
    key-composition-of key e = composition-with (P22 set key) e

-- The public map of the generated key at U is the central map at the private change of U, for every set, all streams, every U and each equation i.
pub key-composition : (set : Set) (public abq private : List ℕ) (U : ℕ → Matrix) (i : ℕ) → i < set.o
    → Same set.l (public_map set public abq (key_of set public private) U i) (central_map set public abq private (private_change set private U) i)
key-composition set public abq private U i below = key-composition-of set public private abq U i below (key_of set public private) (key_of-holds set public private)
