-- No second length meets a contract of src/length_calls: each is an equation with a definition of sets.
-- Rests on Sets of the crate sets, and on Outcome of the crate ground.
use Rattle.std.specs.Prelude.{◌≡◌, ℕ}
use Rattle.ground.specs.Pick.{pick}
use Rattle.ground.specs.Outcome.{unique-equation}
use Rattle.sets.specs.Table.{set_of}
use Rattle.sets.specs.Sets.{allowed_set}
use Rattle.sets.specs.Sets.{public_bytes, abq_bytes, private_bytes, vinegar_bytes, target_bytes, key_bytes, signature_bytes, work_bytes}

module _ (v o l : ℕ) {r r' : ℕ} where
  pub unique-snova-public-bytes : r ≡ pick (allowed_set (set_of v o l)) (public_bytes (set_of v o l)) 0 → r' ≡ pick (allowed_set (set_of v o l)) (public_bytes (set_of v o l)) 0 → r ≡ r'
  unique-snova-public-bytes = unique-equation

  pub unique-snova-abq-bytes : r ≡ pick (allowed_set (set_of v o l)) (abq_bytes (set_of v o l)) 0 → r' ≡ pick (allowed_set (set_of v o l)) (abq_bytes (set_of v o l)) 0 → r ≡ r'
  unique-snova-abq-bytes = unique-equation

  pub unique-snova-private-bytes : r ≡ pick (allowed_set (set_of v o l)) (private_bytes (set_of v o l)) 0 → r' ≡ pick (allowed_set (set_of v o l)) (private_bytes (set_of v o l)) 0 → r ≡ r'
  unique-snova-private-bytes = unique-equation

  pub unique-snova-vinegar-bytes : r ≡ pick (allowed_set (set_of v o l)) (vinegar_bytes (set_of v o l)) 0 → r' ≡ pick (allowed_set (set_of v o l)) (vinegar_bytes (set_of v o l)) 0 → r ≡ r'
  unique-snova-vinegar-bytes = unique-equation

  pub unique-snova-target-bytes : r ≡ pick (allowed_set (set_of v o l)) (target_bytes (set_of v o l)) 0 → r' ≡ pick (allowed_set (set_of v o l)) (target_bytes (set_of v o l)) 0 → r ≡ r'
  unique-snova-target-bytes = unique-equation

  pub unique-snova-key-bytes : r ≡ pick (allowed_set (set_of v o l)) (key_bytes (set_of v o l)) 0 → r' ≡ pick (allowed_set (set_of v o l)) (key_bytes (set_of v o l)) 0 → r ≡ r'
  unique-snova-key-bytes = unique-equation

  pub unique-snova-signature-bytes : r ≡ pick (allowed_set (set_of v o l)) (signature_bytes (set_of v o l)) 0 → r' ≡ pick (allowed_set (set_of v o l)) (signature_bytes (set_of v o l)) 0 → r ≡ r'
  unique-snova-signature-bytes = unique-equation

  pub unique-snova-work-bytes : r ≡ pick (allowed_set (set_of v o l)) (work_bytes (set_of v o l)) 0 → r' ≡ pick (allowed_set (set_of v o l)) (work_bytes (set_of v o l)) 0 → r ≡ r'
  unique-snova-work-bytes = unique-equation
