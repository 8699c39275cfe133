-- No second outcome meets a public function's contract: each is an equation with a definition.
-- Rests on Seeds, and on Outcome of the crate ground.
use Rattle.std.specs.Prelude.{◌≡◌, List, ℕ, length}
use Rattle.ground.specs.Outcome.{unique-equation}
use Rattle.ground.specs.Pick.{pick}
use Rattle.sets.specs.declared.Set.{Set}
use Rattle.sets.specs.Sets.{allowed_set}
use Rattle.shake.specs.Sponge.{shake256}
use Rattle.seeds.specs.Seeds.{expanded, abq_first, target_message, vinegar_message}

-- the buffer at exit, whatever stood there before
module _ (seed before : List ℕ) {out out' : List ℕ} where
  pub unique-expand : (start : ℕ) → out ≡ expanded seed start (length before) → out' ≡ expanded seed start (length before) → out ≡ out'
  unique-expand start = unique-equation

  pub unique-public-stream : out ≡ expanded seed 0 (length before) → out' ≡ expanded seed 0 (length before) → out ≡ out'
  unique-public-stream = unique-equation

  pub unique-abq-stream : (s : Set) → out ≡ pick (allowed_set s) (abq_first s seed (length before)) before
      → out' ≡ pick (allowed_set s) (abq_first s seed (length before)) before → out ≡ out'
  unique-abq-stream s = unique-equation

  pub unique-private-stream : out ≡ shake256 seed (length before) → out' ≡ shake256 seed (length before) → out ≡ out'
  unique-private-stream = unique-equation

  pub unique-target-stream : (digest salt : List ℕ) → out ≡ shake256 (target_message seed digest salt) (length before)
      → out' ≡ shake256 (target_message seed digest salt) (length before) → out ≡ out'
  unique-target-stream digest salt = unique-equation

  pub unique-vinegar-stream : (digest salt : List ℕ) (attempt : ℕ) → out ≡ shake256 (vinegar_message seed digest salt attempt) (length before)
      → out' ≡ shake256 (vinegar_message seed digest salt attempt) (length before) → out ≡ out'
  unique-vinegar-stream digest salt attempt = unique-equation
