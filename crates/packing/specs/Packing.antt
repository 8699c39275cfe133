-- Two elements to a byte, in page 01's words: where an element stands in a stream, what packing and unpacking leave, and what they refuse.
-- Rests on ground's tables and rules.
use Rattle.std.specs.Prelude.{Bool, true, List, [], ◌∷◌, ℕ, ◌+◌, ◌*◌, ◌/◌, ◌%◌, ◌<◌, eqb, leb, length, get_or}
use Rattle.ground.specs.Pick.{pick, both}
use Rattle.ground.specs.Fill.{tab}
use Rattle.ground.specs.Answers.{Answer, Rule, unless, first}
use Rattle.ground.specs.declared.Refusal.TheVariants.{CountsDiffer, AboveFifteen}
use Rattle.ground.specs.Outcome.{Writes}

-- the half of byte b that holds element e: the low half is the earlier element
unfoldable pub half : ℕ → ℕ → ℕ
half b e = pick (eqb (e % 2) 0) (b % 16) (b / 16 % 16)

-- element e of the packed stream s
unfoldable pub element : List ℕ → ℕ → ℕ
element s e = half (get_or s (e / 2) 0) e

-- k elements take (k + 1) / 2 bytes, rounded down
unfoldable pub packed_bytes : ℕ → ℕ
packed_bytes k = (k + 1) / 2

-- byte j of the packed elements: past the last element there is a zero, so the spare high half is zero
unfoldable pub byte_of : List ℕ → ℕ → ℕ
byte_of es j = get_or es (2 * j) 0 + 16 * get_or es (2 * j + 1) 0

-- the elements, packed
unfoldable pub packed : List ℕ → List ℕ
packed es = tab (packed_bytes (length es)) (byte_of es)

-- the first k elements of the stream s
unfoldable pub unpacked : ℕ → List ℕ → List ℕ
unpacked k s = tab k (element s)

-- no element is above 15
unfoldable pub in_field : List ℕ → Bool
in_field [] = true
in_field (x ∷ xs) = both (leb x 15) (in_field xs)

-- 22: element and byte counts do not fit; 23: an element above 15
unfoldable pub pack_rules : List ℕ → List ℕ → List Rule
pack_rules elements bytes = unless CountsDiffer (eqb (length bytes) (packed_bytes (length elements))) ∷ unless AboveFifteen (in_field elements) ∷ []

unfoldable pub unpack_rules : List ℕ → List ℕ → List Rule
unpack_rules bytes elements = unless CountsDiffer (eqb (length bytes) (packed_bytes (length elements))) ∷ []

-- What packing promises of its answer and of the lent bytes, before and after.
abbrev pub Packs : List ℕ → List ℕ → Answer → List ℕ → Type 0
Packs elements before r after = Writes (first (pack_rules elements before)) (packed elements) before r after

-- What unpacking promises of its answer and of the lent elements, before and after.
abbrev pub Unpacks : List ℕ → List ℕ → Answer → List ℕ → Type 0
Unpacks bytes before r after = Writes (first (unpack_rules bytes before)) (unpacked (length before) bytes) before r after

-- a list of bytes: what a slice of `u8` always holds
pub record Bytes (s : List ℕ) : Type 0 where
  pub below : (k : ℕ) → get_or s k 0 < 256
