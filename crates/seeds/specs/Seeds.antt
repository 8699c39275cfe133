-- The streams that the two seeds define: document 000, section 1.7 and Algorithms 5, 6, 7, 11 and 17; for ABQ page 02's string. One definition for each, over the set and the seeds.
-- Rests on shake's Sponge and the lengths of sets.
use Rattle.std.specs.Prelude.{List, [], ◌∷◌, ◌++◌, ℕ, ◌+◌, ◌/◌, ◌%◌, leb, get_or}
use Rattle.ground.specs.Fill.{tab}
use Rattle.ground.specs.Pick.{pick}
use Rattle.sets.specs.declared.Set.{Set}
use Rattle.sets.specs.Sets.{public_bytes, abq_bytes, private_bytes, vinegar_bytes, target_bytes}
use Rattle.shake.specs.Sponge.{lane_byte, shake128, shake256}

-- ---- the public expansion SNOVA_SHAKE

-- a number as n bytes, the lowest first
unfoldable pub little_endian : ℕ → ℕ → List ℕ
little_endian n x = tab n (lane_byte x)

-- SHAKE128 of the seed and an 8-byte block number; 168 bytes are taken
unfoldable pub block : List ℕ → ℕ → List ℕ
block seed number = shake128 (seed ++ little_endian 8 number) 168

-- SNOVA_SHAKE(seed, n) = SHAKE128(seed ‖ floor(n / 168), n mod 168)
unfoldable pub snova_shake : List ℕ → ℕ → ℕ
snova_shake seed n = get_or (block seed (n / 168)) (n % 168) 0

-- n bytes of one run, from byte `start` on
unfoldable pub expanded : List ℕ → ℕ → ℕ → List ℕ
expanded seed start n = tab n (λ k. snova_shake seed (start + k))

-- ---- the streams

-- Algorithm 7, lines 2 and 8
unfoldable pub public_stream : Set → List ℕ → List ℕ
public_stream s seed = expanded seed 0 (public_bytes s)

-- Algorithm 7, line 4: the nine letters SNOVA_ABQ
unfoldable pub letters : List ℕ
letters = 83 ∷ 78 ∷ 79 ∷ 86 ∷ 65 ∷ 95 ∷ 65 ∷ 66 ∷ 81 ∷ []

-- the first n bytes of the ABQ stream: for l up to 3 of the letters; otherwise what follows the public stream in the same run, from the next whole byte on
unfoldable pub abq_first : Set → List ℕ → ℕ → List ℕ
abq_first s seed n = pick (leb s.l 3) (shake256 letters n) (expanded seed (public_bytes s) n)

-- Algorithm 7, lines 5 and 9
unfoldable pub abq_stream : Set → List ℕ → List ℕ
abq_stream s seed = abq_first s seed (abq_bytes s)

-- Algorithm 5, line 1
unfoldable pub private_stream : Set → List ℕ → List ℕ
private_stream s seed = shake256 seed (private_bytes s)

-- Algorithm 17, line 5: public seed ‖ digest ‖ salt
unfoldable pub target_message : (seed digest salt : List ℕ) → List ℕ
target_message seed digest salt = (seed ++ digest) ++ salt

unfoldable pub target_stream : Set → (seed digest salt : List ℕ) → List ℕ
target_stream s seed digest salt = shake256 (target_message seed digest salt) (target_bytes s)

-- Algorithm 11, line 1: private seed ‖ digest ‖ salt ‖ number of the try, one byte
unfoldable pub vinegar_message : (seed digest salt : List ℕ) → ℕ → List ℕ
vinegar_message seed digest salt attempt = ((seed ++ digest) ++ salt) ++ (attempt ∷ [])

unfoldable pub vinegar_stream : Set → (seed digest salt : List ℕ) → ℕ → List ℕ
vinegar_stream s seed digest salt attempt = shake256 (vinegar_message seed digest salt attempt) (vinegar_bytes s)
