-- No second outcome meets a public function's contract: each is an equation with a definition, or a record that has one.
-- Rests on Feed, and on Outcome of the crate ground.
use Rattle.std.specs.Prelude.{◌≡◌, List, ℕ, length}
use Rattle.ground.specs.Outcome.{unique-equation}
use Rattle.shake.specs.declared.Sponge.{Sponge}
use Rattle.shake.specs.Sponge.{lane_byte, shake128, shake256}
use Rattle.shake.specs.Feed.{Fresh, Fed, output}

-- the whole output, whatever stood there before
module _ (input before : List ℕ) {out out' : List ℕ} where
  pub unique-shake128 : out ≡ shake128 input (length before) → out' ≡ shake128 input (length before) → out ≡ out'
  unique-shake128 = unique-equation

  pub unique-shake256 : out ≡ shake256 input (length before) → out' ≡ shake256 input (length before) → out ≡ out'
  unique-shake256 = unique-equation

pub unique-fresh : {r r' : Sponge} → Fresh r → Fresh r' → r ≡ r'
unique-fresh a b = unique-equation a.sponge b.sponge

pub unique-absorb : {rate : ℕ} {s : Sponge} {input : List ℕ} {r r' : Sponge} → Fed rate s input r → Fed rate s input r' → r ≡ r'
unique-absorb a b = unique-equation a.sponge b.sponge

pub unique-extract : (rate : ℕ) (s : Sponge) (before : List ℕ) {out out' : List ℕ} → out ≡ output rate s (length before) → out' ≡ output rate s (length before) → out ≡ out'
unique-extract rate s before = unique-equation

pub unique-lane-byte : (w d : ℕ) {r r' : ℕ} → r ≡ lane_byte w d → r' ≡ lane_byte w d → r ≡ r'
unique-lane-byte w d = unique-equation
