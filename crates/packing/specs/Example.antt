-- Page 01's example, computed from the definitions: bytes 2A F7 hold the three elements 10, 2, 7, and packing these writes 2A 07.
-- Rests on Packing.
use Rattle.std.specs.Prelude.{◌≡◌, refl, [], ◌∷◌}
use Rattle.ground.specs.Fill.{tab}
use Rattle.ground.specs.Answers.{first}
use Rattle.packing.specs.Packing.{half, element, packed_bytes, byte_of, packed, unpacked, in_field, pack_rules}

pub page-unpacked : unpacked 3 (0x2A ∷ 0xF7 ∷ []) ≡ 10 ∷ 2 ∷ 7 ∷ []
unfolding half element unpacked tab
page-unpacked = refl

pub page-packed : packed (10 ∷ 2 ∷ 7 ∷ []) ≡ 0x2A ∷ 0x07 ∷ []
unfolding byte_of packed_bytes packed tab
page-packed = refl

-- no bytes for no elements is done; one byte for three elements is 22, whatever the elements are; an element 16 is 23
pub none-is-done : first (pack_rules [] []) ≡ 0
unfolding packed_bytes in_field pack_rules first
none-is-done = refl

pub counts-first : first (pack_rules (16 ∷ 2 ∷ 7 ∷ []) (0 ∷ [])) ≡ 22
unfolding packed_bytes in_field pack_rules first
counts-first = refl

pub sixteen-refused : first (pack_rules (10 ∷ 16 ∷ 7 ∷ []) (0 ∷ 0 ∷ [])) ≡ 23
unfolding packed_bytes in_field pack_rules first
sixteen-refused = refl
