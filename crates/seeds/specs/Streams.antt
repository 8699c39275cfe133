-- What the functions leave in a buffer is the set's stream, where the buffer has its length; and the ABQ stream's three ways.
-- Rests on Seeds.
use Rattle.std.specs.Prelude.{◌≡◌, true, List, ℕ, ◌*◌, ◌<◌, ◌≤◌, length}
use Rattle.std.proofs.Math.Path.{ap}
use Rattle.std.proofs.Common.{◌∙◌, arith, le-leb}
use Rattle.std.proofs.lemmas.Bool.{lt-leb}
use Rattle.ground.specs.Pick.{pick}
use Rattle.sets.specs.declared.Set.{Set}
use Rattle.sets.specs.Sets.{allowed_set, public_count, public_bytes, abq_bytes, private_bytes, vinegar_bytes, target_bytes}
use Rattle.shake.specs.Sponge.{shake256}
use Rattle.seeds.specs.Seeds.{expanded, public_stream, letters, abq_first, abq_stream, private_stream, target_message, target_stream, vinegar_message, vinegar_stream}

-- ---- the ABQ stream of a set

module _ (s : Set) (seed : List ℕ) (n : ℕ) where
  pub abq-letters : s.l ≤ 3 → abq_first s seed n ≡ shake256 letters n
  unfolding abq_first
  abq-letters h = rw (le-leb s.l 3 h)

  pub abq-follows : 3 < s.l → abq_first s seed n ≡ expanded seed (public_bytes s) n
  unfolding abq_first
  abq-follows h = rw (lt-leb s.l 3 h)

-- for l = 4 the public stream fills its last byte: nothing is skipped before the ABQ stream
pub no-half-between : (s : Set) → s.l ≡ 4 → 2 * public_bytes s ≡ public_count s
unfolding public_bytes public_count
no-half-between s e =
    let area : s.l * s.l ≡ 16 = ap (λ l. l * l) e in
    rw area (omega arith)

-- ---- for a caller whose buffer, before the call, has the set's length

module _ (s : Set) (before : List ℕ) {after : List ℕ} where
  pub public-filled : (seed : List ℕ) → length before ≡ public_bytes s → after ≡ expanded seed 0 (length before) → after ≡ public_stream s seed
  unfolding public_stream
  public-filled seed e f = f ∙ ap (expanded seed 0) e

  pub abq-filled : (seed : List ℕ) → allowed_set s ≡ true → length before ≡ abq_bytes s → after ≡ pick (allowed_set s) (abq_first s seed (length before)) before
      → after ≡ abq_stream s seed
  unfolding abq_stream
  abq-filled seed a e f = f ∙ ap (λ b. pick b (abq_first s seed (length before)) before) a ∙ ap (abq_first s seed) e

  pub private-filled : (seed : List ℕ) → length before ≡ private_bytes s → after ≡ shake256 seed (length before) → after ≡ private_stream s seed
  unfolding private_stream
  private-filled seed e f = f ∙ ap (shake256 seed) e

  pub target-filled : (seed digest salt : List ℕ) → length before ≡ target_bytes s → after ≡ shake256 (target_message seed digest salt) (length before)
      → after ≡ target_stream s seed digest salt
  unfolding target_stream
  target-filled seed digest salt e f = f ∙ ap (shake256 (target_message seed digest salt)) e

  pub vinegar-filled : (seed digest salt : List ℕ) (attempt : ℕ) → length before ≡ vinegar_bytes s
      → after ≡ shake256 (vinegar_message seed digest salt attempt) (length before) → after ≡ vinegar_stream s seed digest salt attempt
  unfolding vinegar_stream
  vinegar-filled seed digest salt attempt e f = f ∙ ap (shake256 (vinegar_message seed digest salt attempt)) e
