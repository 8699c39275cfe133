-- The three outcomes of signing, each meets the promise: refused, redo and done. What the functions of src/lib.rt cite.
-- Rests on Signs and Solving.
use Rattle.std.specs.Prelude.{◌≡◌, refl, Ok, Err, List, ℕ, ◌<◌, length}
use Rattle.std.proofs.Common.{◌∙◌, inl, inr}
use Rattle.ground.specs.Answers.{code, first}
use Rattle.ground.specs.AnswerLaws.{code-some}
use Rattle.ground.specs.declared.Refusal.{Refusal}
use Rattle.sets.specs.declared.Set.{Set}
use Rattle.scheme.specs.Refusals.{sign_refusals}
use Rattle.scheme.specs.Oil.{oil_from}
use Rattle.rows.specs.Zero.{zeros}
use Rattle.signing.specs.declared.Signing.TheVariants.{Done, Redo}
use Rattle.signing.specs.Signs.{Again, Signs, signature_with}
use Rattle.signing.specs.Solving.{FoundOil, emitted}

abbrev pub refusal : (set : Set) (public abq private vinegar target salt work output : List ℕ) → ℕ
refusal set public abq private vinegar target salt work output = first (sign_refusals set public abq private vinegar target salt work output)

module _ (set : Set) (public abq private vinegar target salt work output : List ℕ) where
  -- a refusal, handed up
  pub signs-refused : (r : Refusal) → code r ≡ refusal set public abq private vinegar target salt work output
      → Signs set public abq private vinegar target salt work output (Err r) work output
  signs-refused r e = record {
    refused = λ z. (e, (refl, refl));
    answered = λ z. absurd (code-some r (e ∙ z));
    redo = λ z. cc;
    done = λ z. cc;
    wiped = λ z. absurd (code-some r (e ∙ z));
  }

  module _ (fits : refusal set public abq private vinegar target salt work output ≡ 0) where
    pub signs-redo : {work' : List ℕ} → Again set public abq private vinegar target → work' ≡ zeros (length work)
        → Signs set public abq private vinegar target salt work output (Ok Redo) work' output
    signs-redo again wiped = record {
      refused = λ z. absurd (z fits);
      answered = λ z. inr refl;
      redo = λ z. (again, refl);
      done = λ z. cc;
      wiped = λ z. wiped;
    }

    pub signs-done : {work' output' : List ℕ} {s : ℕ → ℕ} → 0 < set.l → FoundOil set public abq private vinegar target s
        → output' ≡ signature_with set private vinegar salt (oil_from set.l s) → work' ≡ zeros (length work)
        → Signs set public abq private vinegar target salt work output (Ok Done) work' output'
    signs-done p found bytes wiped = record {
      refused = λ z. absurd (z fits);
      answered = λ z. inl refl;
      redo = λ z. cc;
      done = λ z. emitted p found bytes;
      wiped = λ z. wiped;
    }
