-- The sponge byte by byte, as the code takes a message: the state, and the place in the block of the next byte.
-- Rests on Sponge.
use Rattle.std.specs.Prelude.{List, [], ◌∷◌, ◌≡◌, ℕ, ◌+◌, ◌-◌, ◌%◌, ◌<◌, ◌≤◌, eqb, replicate}
use Rattle.ground.specs.Pick.{pick}
use Rattle.ground.specs.Fill.{tab}
use Rattle.keccak.specs.Keccak.{keccak_f}
use Rattle.shake.specs.declared.Sponge.{Sponge}
use Rattle.shake.specs.Sponge.{add_byte, squeezed}

-- a rate that the code takes: whole lanes of the state
pub record Rate (rate : ℕ) : Type 0 where
  pub some : 0 < rate
  pub fits : rate ≤ 200
  pub lanes : rate % 8 ≡ 0

-- before the first byte
unfoldable pub fresh : Sponge
fresh = record { lanes = replicate 25 0; at = 0 }

-- what a new sponge promises
pub record Fresh (r : Sponge) : Type 0 where
  pub sponge : r ≡ fresh
  pub start : r.at ≡ 0

-- what absorbing asks: the next byte stands inside the block
pub record Ready (rate : ℕ) (s : Sponge) : Type 0 where
  pub whole : Rate rate
  pub inside : s.at < rate

-- a state whose next byte goes to place at: a full block is permuted at once
unfoldable pub turned : (rate : ℕ) → List ℕ → ℕ → Sponge
turned rate s at = pick (eqb at rate) (record { lanes = keccak_f s; at = 0 }) (record { lanes = s; at = at })

-- one byte more
unfoldable pub fed_byte : (rate : ℕ) → Sponge → ℕ → Sponge
fed_byte rate s b = turned rate (add_byte s.lanes s.at b) (s.at + 1)

-- some bytes more
unfoldable pub fed : (rate : ℕ) → Sponge → List ℕ → Sponge
fed rate s [] = s
fed rate s (b ∷ bs) = fed rate (fed_byte rate s b) bs

-- what absorbing promises: some bytes more, and the place of the next byte inside the block
pub record Fed (rate : ℕ) (s : Sponge) (m : List ℕ) (r : Sponge) : Type 0 where
  pub sponge : r ≡ fed rate s m
  pub inside : r.at < rate

-- the last block is padded and absorbed
unfoldable pub finished : (rate : ℕ) → Sponge → List ℕ
finished rate s =
    keccak_f (pick (eqb (s.at + 1) rate) (add_byte s.lanes s.at 159) (add_byte (add_byte s.lanes s.at 31) (rate - 1) 128))

-- the first n bytes of the output, once the message is at its end
unfoldable pub output : (rate : ℕ) → Sponge → ℕ → List ℕ
output rate s n = tab n (squeezed rate (finished rate s))
