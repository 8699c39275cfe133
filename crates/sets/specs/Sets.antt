-- Parameter sets and the exact length of every stream and buffer: page 01, "What the model covers" and "Streams and their sizes", in its order and words.
-- Rests on Pick of the crate ground.
use Rattle.std.specs.Prelude.{Bool, ℕ, ◌+◌, ◌*◌, ◌/◌, leb}
use Rattle.ground.specs.Pick.{both}
use Rattle.sets.specs.declared.Set.{Set}

-- the limits, which stand here and nowhere else in specs/: the largest v, o and l, the least l, and the largest o·l²
abbrev pub most_v : ℕ
most_v = 75

abbrev pub most_o : ℕ
most_o = 33

abbrev pub least_l : ℕ
least_l = 2

abbrev pub most_l : ℕ
most_l = 4

abbrev pub most_row : ℕ
most_row = 160

-- x is from the first to the second
abbrev pub from_to : ℕ → ℕ → ℕ → Bool
from_to least most x = both (leb least x) (leb x most)

-- v from 1 to 75, o from 1 to 33, l from 2 to 4, and o·l² at most 160
unfoldable pub allowed_set : Set → Bool
allowed_set s =
    both (from_to 1 most_v s.v) (both (from_to 1 most_o s.o) (both (from_to least_l most_l s.l) (leb (s.o * (s.l * s.l)) most_row)))

-- n = v + o
abbrev pub variables : Set → ℕ
variables s = s.v + s.o

-- alpha is from 0 to l² + l - 1
unfoldable pub terms : Set → ℕ
terms s = s.l * s.l + s.l

-- the terms of all equations: as many A stand in the ABQ stream
unfoldable pub all_terms : Set → ℕ
all_terms s = s.o * terms s

-- N = o·l², the unknowns of a signing's linear system
unfoldable pub unknowns : Set → ℕ
unknowns s = s.o * (s.l * s.l)

-- element counts, in stream order

unfoldable pub public_count : Set → ℕ
public_count s = s.o * (s.v * s.v + 2 * s.v * s.o) * (s.l * s.l)

unfoldable pub abq_count : Set → ℕ
abq_count s = all_terms s * (2 * (s.l * s.l) + 2 * s.l)

unfoldable pub private_count : Set → ℕ
private_count s = s.v * s.o * s.l

unfoldable pub vinegar_count : Set → ℕ
vinegar_count s = s.v * (s.l * s.l)

unfoldable pub target_count : Set → ℕ
target_count s = s.o * (s.l * s.l)

unfoldable pub key_count : Set → ℕ
key_count s = s.o * s.o * s.o * (s.l * s.l)

unfoldable pub signature_count : Set → ℕ
signature_count s = variables s * (s.l * s.l)

-- k elements take (k + 1)/2 bytes, rounded down
abbrev pub bytes_for : ℕ → ℕ
bytes_for k = (k + 1) / 2

abbrev pub salt_bytes : ℕ
salt_bytes = 16

-- exact lengths in bytes, in the order of the page's table

unfoldable pub public_bytes : Set → ℕ
public_bytes s = bytes_for (public_count s)

unfoldable pub abq_bytes : Set → ℕ
abq_bytes s = bytes_for (abq_count s)

unfoldable pub private_bytes : Set → ℕ
private_bytes s = bytes_for (private_count s)

unfoldable pub vinegar_bytes : Set → ℕ
vinegar_bytes s = bytes_for (vinegar_count s)

unfoldable pub target_bytes : Set → ℕ
target_bytes s = bytes_for (target_count s)

unfoldable pub key_bytes : Set → ℕ
key_bytes s = bytes_for (key_count s)

-- the elements packed, then the salt
unfoldable pub signature_bytes : Set → ℕ
signature_bytes s = bytes_for (signature_count s) + salt_bytes

-- N(N + 1) + 3·v·o·l²
unfoldable pub work_bytes : Set → ℕ
work_bytes s = unknowns s * (unknowns s + 1) + 3 * s.v * s.o * (s.l * s.l)
