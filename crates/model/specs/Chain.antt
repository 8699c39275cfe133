-- What key generation, signing and the verdict promise together, called one after the other on the same streams: each way that it can go, and no other.
-- Rests on the promises of the three. No way ends in not accepted.
use Rattle.std.specs.Prelude.{Result, Ok, Err, List, ℕ}
use Rattle.ground.specs.Answers.{code}
use Rattle.ground.specs.declared.Refusal.{Refusal}
use Rattle.sets.specs.declared.Set.{Set}
use Rattle.keys.specs.Generates.{Generates}
use Rattle.verdict.specs.declared.Verdict.{Verdict}
use Rattle.verdict.specs.declared.Verdict.TheVariants as Verdicts
use Rattle.signing.specs.declared.Signing.TheVariants as Signings
use Rattle.signing.specs.Signs.{Signs}
use Rattle.verdict.specs.Promise.{Verifies}
use Rattle.model.specs.declared.Outcome.{Outcome}
use Rattle.model.specs.declared.Outcome.TheVariants.{Accepted, NotAccepted, Redo}

-- a verdict as an outcome
abbrev pub outcome_of : Verdict → Outcome
outcome_of Verdicts.Accepted = Accepted
outcome_of Verdicts.NotAccepted = NotAccepted

-- the page's number of an outcome or a refusal
abbrev pub outcome_number : Result Outcome Refusal → ℕ
outcome_number (Ok Accepted) = 0
outcome_number (Ok NotAccepted) = 1
outcome_number (Ok Redo) = 2
outcome_number (Err r) = code r

module _ (set : Set) (public abq private vinegar target salt work key output : List ℕ) where
  -- the outcome, then work area, key and signature as the calls leave them
  pub data SignsAndVerifies : Result Outcome Refusal → (work' key' signature : List ℕ) → Type 0 where
    -- key generation refuses: its number is handed up, and nothing else is done
    key-refused : {n : Refusal} {key' : List ℕ} → Generates set public private key (Err n) key' → SignsAndVerifies (Err n) work key' output
    -- the key is generated, and signing refuses: its number is handed up
    sign-refused : {n : Refusal} {work' key' signature : List ℕ} → Generates set public private key (Ok tt) key'
        → Signs set public abq private vinegar target salt work output (Err n) work' signature → SignsAndVerifies (Err n) work' key' signature
    -- signing says redo
    redo : {work' key' signature : List ℕ} → Generates set public private key (Ok tt) key'
        → Signs set public abq private vinegar target salt work output (Ok Signings.Redo) work' signature → SignsAndVerifies (Ok Redo) work' key' signature
    -- key generation and signing are done: the verdict on that signature under that key is accepted
    accepted : {work' key' signature : List ℕ} → Generates set public private key (Ok tt) key'
        → Signs set public abq private vinegar target salt work output (Ok Signings.Done) work' signature
        → Verifies set public abq target key' signature (Ok Verdicts.Accepted) → SignsAndVerifies (Ok Accepted) work' key' signature

  -- no way ends in not accepted
  pub never-not-accepted : {work' key' signature : List ℕ} → SignsAndVerifies (Ok NotAccepted) work' key' signature → ⊥
  never-not-accepted w = elim w [ ]
