-- A block of an exercise book: 512 bytes, that is 128 words of four bytes, all little-endian (page 02, Req 13): its fields, its check, its form, and the bytes of a part.
-- Rests on ground's tests.
use Rattle.std.specs.Prelude.{◌≡◌, ℕ, zero, suc, ◌+◌, ◌-◌, ◌*◌, ◌/◌, ◌%◌, ◌^◌, Bool, List, [], ◌∷◌, ◌++◌, length, take, drop, replicate, ◌==◌, nat_le, slice_index}
use Rattle.ground.specs.Pick.{both}
use Rattle.ground.specs.Tests.{every}
use Rattle.blocks.specs.declared.Head.{Head}

-- two bytes from byte i on
unfoldable pub pair : List ℕ → ℕ → ℕ
pair s i = slice_index s i + 256 * slice_index s (i + 1)

-- word k: four bytes from byte 4 · k on
unfoldable pub word : List ℕ → ℕ → ℕ
word s k = slice_index s (4 * k) + 256 * slice_index s (4 * k + 1) + 65536 * slice_index s (4 * k + 2) + 16777216 * slice_index s (4 * k + 3)

-- block b of a book
abbrev pub block_at : ℕ → List ℕ → List ℕ
block_at b s = take 512 (drop (512 * b) s)

-- x is block b of the book s, whole
pub record IsBlock (s : List ℕ) (b : ℕ) (x : List ℕ) : Type 0 where
  pub is : x ≡ block_at b s
  pub long : length x ≡ 512

-- the sum of the first n words
unfoldable pub sum_words : ℕ → List ℕ → ℕ
sum_words zero s = 0
sum_words (suc n) s = sum_words n s + word s n

-- the check of the block at a place: the sum modulo 2^32 of the first 127 words and the place, counted from 1
unfoldable pub check_of : ℕ → List ℕ → ℕ
check_of place s = (place + sum_words 127 s) % 2 ^ 32

-- what the block says of itself: exercise, kind and part number
unfoldable pub head_of : List ℕ → Head
head_of s = record { exercise = pair s 0; kind = slice_index s 2; part = pair s 4 }

-- payload length
unfoldable pub size_of : List ℕ → ℕ
size_of s = pair s 6

-- the payload
unfoldable pub payload_of : List ℕ → List ℕ
payload_of s = take (size_of s) (drop 8 s)

-- a part of a field: what a block holds
pub record Part : Type 0 where
  pub head : Head
  pub payload : List ℕ

abbrev pub part_of : List ℕ → Part
part_of s = record { head = head_of s; payload = payload_of s }

-- byte k of the padding after a payload of so many bytes is zero
abbrev pub zero_at : List ℕ → ℕ → ℕ → Bool
zero_at s size k = slice_index s (8 + size + k) == 0

-- the padding is zero
unfoldable pub padded : List ℕ → Bool
padded s = every (500 - size_of s) (zero_at s (size_of s))

-- kind 1 to 7
abbrev pub kind_fits : List ℕ → Bool
kind_fits s = both (nat_le 1 (slice_index s 2)) (nat_le (slice_index s 2) 7)

-- payload length 1 to 500
abbrev pub size_fits : List ℕ → Bool
size_fits s = both (nat_le 1 (size_of s)) (nat_le (size_of s) 500)

-- kind, zero byte, length and padding
unfoldable pub formed : List ℕ → Bool
formed s = both (kind_fits s) (both (slice_index s 3 == 0) (both (size_fits s) (padded s)))

-- the check that stands in the block is the one that its place and its other words give
unfoldable pub checked : ℕ → List ℕ → Bool
checked place s = word s 127 == check_of place s

-- ---- the bytes of a part

-- a number below 2^16, and one below 2^32, as bytes
abbrev pub two : ℕ → List ℕ
two x = x % 256 ∷ x / 256 ∷ []

abbrev pub four : ℕ → List ℕ
four x = x % 256 ∷ x / 256 % 256 ∷ x / 65536 % 256 ∷ x / 16777216 ∷ []

-- the first eight bytes
abbrev pub opening : Part → List ℕ
opening p = two p.head.exercise ++ ((p.head.kind ∷ 0 ∷ []) ++ (two p.head.part ++ two (length p.payload)))

-- the first 508 bytes: the opening, the payload, zeros
unfoldable pub body : Part → List ℕ
body p = opening p ++ (p.payload ++ replicate (500 - length p.payload) 0)

-- the block of a part at a place
unfoldable pub block_of : ℕ → Part → List ℕ
block_of place p = body p ++ four (check_of place (body p))
