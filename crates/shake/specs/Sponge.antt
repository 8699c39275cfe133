-- FIPS 202, sections 4 to 6: the sponge over Keccak-f[1600] with pad10*1, and SHAKE128 and SHAKE256, for messages and outputs of whole bytes.
-- Byte p of a state is bits 8 (p mod 8) and up of lane p / 8: the lowest bit of a byte comes first (sections 3.1.2 and B.1).
-- Rests on keccak's permutation.
use Rattle.std.specs.Prelude.{List, [], ◌∷◌, ◌++◌, ℕ, zero, suc, ◌+◌, ◌-◌, ◌*◌, ◌/◌, ◌%◌, ◌^◌, length, get_or, set, take, drop, replicate}
use Rattle.std.specs.Int.Bits.{bit_xor}
use Rattle.ground.specs.Fill.{tab}
use Rattle.keccak.specs.Keccak.{keccak_f}

-- ---- section B.1: a string of bits as bytes, the first bit of each eight the lowest

-- the byte whose bits are those from place p on
unfoldable pub byte_from : List ℕ → ℕ → ℕ
byte_from s p =
    get_or s p 0 + 2 * (get_or s (p + 1) 0 + 2 * (get_or s (p + 2) 0 + 2 * (get_or s (p + 3) 0 + 2 * (get_or s (p + 4) 0 + 2 * (get_or s (p + 5) 0 + 2 * (get_or s (p + 6) 0 + 2 * get_or s (p + 7) 0))))))

unfoldable pub bytes_of : List ℕ → List ℕ
bytes_of s = tab (length s / 8) (λ k. byte_from s (8 * k))

-- ---- bytes of a state

-- byte d of a lane
unfoldable pub lane_byte : ℕ → ℕ → ℕ
lane_byte w d = w / 2 ^ (8 * d) % 256

-- byte p of a state
unfoldable pub byte_at : List ℕ → ℕ → ℕ
byte_at s p = lane_byte (get_or s (p / 8) 0) (p % 8)

-- the state with b added to byte p
unfoldable pub add_byte : List ℕ → ℕ → ℕ → List ℕ
add_byte s p b = set s (p / 8) (bit_xor (get_or s (p / 8) 0) (b * 2 ^ (8 * (p % 8))))

-- the state with some bytes added, from byte p on
unfoldable pub add_bytes : List ℕ → ℕ → List ℕ → List ℕ
add_bytes s p [] = s
add_bytes s p (b ∷ bs) = add_bytes (add_byte s p b) (p + 1) bs

-- ---- Algorithm 8, SPONGE

-- Algorithm 9, pad10*1(x, m): 1, then (- m - 2) mod x zeros, then 1
unfoldable pub pad101 : ℕ → ℕ → List ℕ
pad101 x m = 1 ∷ (replicate ((x - (m + 2) % x) % x) 0 ++ (1 ∷ []))

-- section 6.2: what SHAKE puts behind a message, before the padding
unfoldable pub suffix : List ℕ
suffix = 1 ∷ 1 ∷ 1 ∷ 1 ∷ []

-- the bits that follow a message of n bytes: the suffix, then the padding of 8n + 4 bits to whole blocks
unfoldable pub ending : (rate : ℕ) → ℕ → List ℕ
ending rate n = suffix ++ pad101 (8 * rate) (8 * n + 4)

-- step 1: P
unfoldable pub padded : (rate : ℕ) → List ℕ → List ℕ
padded rate m = m ++ bytes_of (ending rate (length m))

-- step 6: each of n blocks of P is added to the state, and the state is permuted
unfoldable pub absorbed : (rate : ℕ) → List ℕ → ℕ → List ℕ → List ℕ
absorbed rate s zero p = s
absorbed rate s (suc n) p = absorbed rate (keccak_f (add_bytes s 0 (take rate p))) n (drop rate p)

-- steps 2 to 6: the state that has absorbed the message
unfoldable pub sponge : (rate : ℕ) → List ℕ → List ℕ
sponge rate m = absorbed rate (replicate 25 0) (length (padded rate m) / rate) (padded rate m)

-- n permutations more
unfoldable pub permuted : ℕ → List ℕ → List ℕ
permuted zero s = s
permuted (suc n) s = permuted n (keccak_f s)

-- steps 7 to 10: byte k of Z is byte k mod rate of the state after k / rate permutations
unfoldable pub squeezed : (rate : ℕ) → List ℕ → ℕ → ℕ
squeezed rate s k = byte_at (permuted (k / rate) s) (k % rate)

-- the first n bytes of the output
unfoldable pub shake : (rate : ℕ) → List ℕ → ℕ → List ℕ
shake rate m n = tab n (squeezed rate (sponge rate m))

-- ---- section 6.2: capacities of 256 and 512 bits leave 168 and 136 bytes

abbrev pub shake128 : List ℕ → ℕ → List ℕ
shake128 m n = shake 168 m n

abbrev pub shake256 : List ℕ → ℕ → List ℕ
shake256 m n = shake 136 m n
