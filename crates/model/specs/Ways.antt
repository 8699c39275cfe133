-- Each way that the three calls can go meets the promise: what `chain::sign_and_verify` cites at its returns.
-- Rests on Chain, and on Accepted for the verdict.
use Rattle.std.specs.Prelude.{◌≡◌, Result, Ok, Err, refl, List, ℕ}
use Rattle.std.proofs.Common.{sym, ap, subst, ◌∙◌}
use Rattle.ground.specs.Answers.{Answer}
use Rattle.ground.specs.AnswerLaws.{same-value}
use Rattle.ground.specs.declared.Refusal.{Refusal}
use Rattle.sets.specs.declared.Set.{Set}
use Rattle.keys.specs.Generates.{Generates}
use Rattle.verdict.specs.declared.Verdict.{Verdict}
use Rattle.verdict.specs.declared.Verdict.TheVariants as Verdicts
use Rattle.signing.specs.declared.Signing.{Signing}
use Rattle.signing.specs.declared.Signing.TheVariants as Signings
use Rattle.signing.specs.Signs.{Signs}
use Rattle.verdict.specs.Promise.{Verifies}
use Rattle.model.specs.Accepted.{written-zero, emitted-verdict}
use Rattle.model.specs.declared.Outcome.{Outcome}
use Rattle.model.specs.declared.Outcome.TheVariants.{Redo}
use Rattle.model.specs.Chain.{SignsAndVerifies, key-refused, sign-refused, redo, accepted, outcome_of}

module _ {set : Set} {public abq private vinegar target salt work key output : List ℕ} {g : Answer} {key' : List ℕ} (generated : Generates set public private key g key') where
  -- key generation's refusal, handed up
  pub way-key-refused : {e : Refusal} → g ≡ Err e → SignsAndVerifies set public abq private vinegar target salt work key output (Err e) work key' output
  way-key-refused is = key-refused (subst (λ a. Generates set public private key a key') is generated)

  module _ {s : Result Signing Refusal} {work' signature : List ℕ} (done : g ≡ Ok tt)
      (signed : Signs set public abq private vinegar target salt work output s work' signature) where
    made : Generates set public private key (Ok tt) key'
    made = subst (λ a. Generates set public private key a key') done generated

    -- signing's refusal, handed up
    pub way-sign-refused : {e : Refusal} → s ≡ Err e → SignsAndVerifies set public abq private vinegar target salt work key output (Err e) work' key' signature
    way-sign-refused is = sign-refused made (subst (λ a. Signs set public abq private vinegar target salt work output a work' signature) is signed)

    pub way-redo : s ≡ Ok Signings.Redo → SignsAndVerifies set public abq private vinegar target salt work key output (Ok Redo) work' key' signature
    way-redo is = redo made (subst (λ a. Signs set public abq private vinegar target salt work output a work' signature) is signed)

    -- the verdict on a signature that was emitted is accepted
    module _ {v : Result Verdict Refusal} (is : s ≡ Ok Signings.Done) (verified : Verifies set public abq target key' signature v) where
      emits : Signs set public abq private vinegar target salt work output (Ok Signings.Done) work' signature
      emits = subst (λ a. Signs set public abq private vinegar target salt work output a work' signature) is signed

      pub way-yes : v ≡ Ok Verdicts.Accepted
      way-yes = emitted-verdict set public abq private vinegar target salt work output emits (subst (λ k. Verifies set public abq target k signature v) (written-zero made refl) verified)

      pub way-accepted : {verdict : Verdict} {r : Outcome} → v ≡ Ok verdict → r ≡ outcome_of verdict
          → SignsAndVerifies set public abq private vinegar target salt work key output (Ok r) work' key' signature
      way-accepted v-is r-is =
          let yes = same-value v-is way-yes in
          subst (λ o. SignsAndVerifies set public abq private vinegar target salt work key output (Ok o) work' key' signature) (sym (r-is ∙ ap outcome_of yes))
          (accepted made emits (subst (λ w. Verifies set public abq target key' signature w) way-yes verified))
