-- The refusals of each operation, in order: page 01, "Numbers a caller can receive", and the buffers that each operation takes.
-- Rests on Sets, and on Answers of the crate ground. 21 is added by the crates that can decide it.
use Rattle.std.specs.Prelude.{List, [], ◌∷◌, ℕ, eqb}
use Rattle.ground.specs.Answers.{Rule, unless}
use Rattle.ground.specs.declared.Refusal.TheVariants.{SetNotAllowed, PublicLength, AbqLength, PrivateLength, VinegarLength, TargetLength, KeyLength, SaltLength, SignatureLength, WorkLength, OutputLength}
use Rattle.sets.specs.declared.Set.{Set}
use Rattle.sets.specs.Sets.{
  allowed_set,
  public_bytes,
  abq_bytes,
  private_bytes,
  vinegar_bytes,
  target_bytes,
  key_bytes,
  signature_bytes,
  work_bytes,
  salt_bytes,
}

-- the page's table: a number, given unless the set is allowed or the length is the exact one

abbrev pub set_rule : Set → Rule
set_rule s = unless SetNotAllowed (allowed_set s)

abbrev pub public_rule : Set → ℕ → Rule
public_rule s n = unless PublicLength (eqb n (public_bytes s))

abbrev pub abq_rule : Set → ℕ → Rule
abq_rule s n = unless AbqLength (eqb n (abq_bytes s))

abbrev pub private_rule : Set → ℕ → Rule
private_rule s n = unless PrivateLength (eqb n (private_bytes s))

abbrev pub vinegar_rule : Set → ℕ → Rule
vinegar_rule s n = unless VinegarLength (eqb n (vinegar_bytes s))

abbrev pub target_rule : Set → ℕ → Rule
target_rule s n = unless TargetLength (eqb n (target_bytes s))

abbrev pub key_rule : Set → ℕ → Rule
key_rule s n = unless KeyLength (eqb n (key_bytes s))

abbrev pub salt_rule : ℕ → Rule
salt_rule n = unless SaltLength (eqb n salt_bytes)

abbrev pub signature_rule : Set → ℕ → Rule
signature_rule s n = unless SignatureLength (eqb n (signature_bytes s))

abbrev pub work_rule : Set → ℕ → Rule
work_rule s n = unless WorkLength (eqb n (work_bytes s))

-- an output of another length, whatever it is to hold
abbrev pub output_rule : ℕ → ℕ → Rule
output_rule exact n = unless OutputLength (eqb n exact)

-- each operation's refusals, for the buffers that it takes

unfoldable pub keygen_rules : Set → (public private output : ℕ) → List Rule
keygen_rules s public private output = set_rule s ∷ public_rule s public ∷ private_rule s private ∷ output_rule (key_bytes s) output ∷ []

unfoldable pub sign_rules : Set → (public abq private vinegar target salt work output : ℕ) → List Rule
sign_rules s public abq private vinegar target salt work output =
    set_rule s
    ∷ public_rule s public
    ∷ abq_rule s abq
    ∷ private_rule s private
    ∷ vinegar_rule s vinegar
    ∷ target_rule s target
    ∷ salt_rule salt
    ∷ work_rule s work
    ∷ output_rule (signature_bytes s) output
    ∷ []

unfoldable pub verdict_rules : Set → (public abq target key signature : ℕ) → List Rule
verdict_rules s public abq target key signature =
    set_rule s ∷ public_rule s public ∷ abq_rule s abq ∷ target_rule s target ∷ key_rule s key ∷ signature_rule s signature ∷ []

unfoldable pub salt_rules : Set → (signature : ℕ) → List Rule
salt_rules s signature = set_rule s ∷ signature_rule s signature ∷ []
