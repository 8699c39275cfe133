-- The generated key, element by element: that it holds P22, and what its public map is, stands in proofs/KeyLaws.
-- Rests on Entries, on packing's laws and on the kit's digits.
use Rattle.std.specs.Prelude.{◌≡◌, true, List, ℕ, ◌+◌, ◌*◌, ◌<◌, length}
use Rattle.std.proofs.Math.Path.{ap}
use Rattle.std.proofs.Common.{◌∙◌}
use Rattle.std.proofs.Math.Arith.{digits_lt, digits_div, digits_mod}
use Rattle.ground.specs.Fill.{tab, length-tab}
use Rattle.packing.specs.Packing.{packed_bytes, in_field}
use Rattle.packing.proofs.Laws.{in-field-tab, length-packed}
use Rattle.sets.specs.declared.Set.{Set}
use Rattle.sets.specs.Sets.{key_count, key_bytes}
use Rattle.scheme.specs.Streams.{p22_number}
use Rattle.scheme.specs.Maps.{key_p22, key_element, key_of}
use Rattle.scheme.specs.Entries.{key_p22-lt}

-- a list made of elements by a rule is in the field
pub tab-in-field : (n : ℕ) (f : ℕ → ℕ) → ((e : ℕ) → f e < 16) → in_field (tab n f) ≡ true
tab-in-field n f small = in-field-tab n f (λ e h. small e)

module _ (set : Set) (public private : List ℕ) where
  pub key_element-lt : (e : ℕ) → key_element set public private e < 16
  unfolding key_element
  key_element-lt e = key_p22-lt set public private _ _ _ _ _

  pub length-key_of : length (key_of set public private) ≡ key_bytes set
  unfolding key_of key_bytes packed_bytes
  length-key_of = length-packed _ ∙ ap packed_bytes (length-tab (key_count set) (key_element set public private))

  module _ {i j k r c : ℕ} (hi : i < set.o) (hj : j < set.o) (hk : k < set.o) (hr : r < set.l) (hc : c < set.l) where
    -- the number of entry (r, c) of block (i, j, k) tells i, j, k, r and c
    pub key_element-at : key_element set public private (p22_number set i j k * (set.l * set.l) + (r * set.l + c)) ≡ key_p22 set public private i j k r c
    unfolding key_element
    key_element-at =
        let entry : r * set.l + c < set.l * set.l = digits_lt hr hc in
        rw (
          digits_div (p22_number set i j k) entry,
          digits_mod (p22_number set i j k) entry,
          digits_div (i * set.o + j) hk,
          digits_mod (i * set.o + j) hk,
          digits_div i hj,
          digits_mod i hj,
          digits_div r hc,
          digits_mod r hc,
        )
