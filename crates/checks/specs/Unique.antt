-- No second answer meets a contract of this crate: each gives the number, which says which answer it is.
-- Rests on ground's AnswerLaws.
use Rattle.std.specs.Prelude.{◌≡◌, List, [], ◌∷◌, ℕ}
use Rattle.ground.specs.Answers.{Answer, number_of, first}
use Rattle.ground.specs.AnswerLaws.{unique-answer}
use Rattle.sets.specs.declared.Set.{Set}
use Rattle.scheme.specs.Refusals.{invertible_rule, sign_refusals, verdict_refusals}

module _ (set : Set) {r r' : Answer} where
  pub unique-all-invertible : (abq : List ℕ) → number_of r ≡ first (invertible_rule set abq ∷ []) → number_of r' ≡ first (invertible_rule set abq ∷ []) → r ≡ r'
  unique-all-invertible abq = unique-answer

  pub unique-check-sign : (public abq private vinegar target salt work output : List ℕ)
      → number_of r ≡ first (sign_refusals set public abq private vinegar target salt work output)
      → number_of r' ≡ first (sign_refusals set public abq private vinegar target salt work output) → r ≡ r'
  unique-check-sign public abq private vinegar target salt work output = unique-answer

  pub unique-check-verdict : (public abq target key signature : List ℕ) → number_of r ≡ first (verdict_refusals set public abq target key signature)
      → number_of r' ≡ first (verdict_refusals set public abq target key signature) → r ≡ r'
  unique-check-verdict public abq target key signature = unique-answer
