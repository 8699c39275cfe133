-- No second answer meets a refusal's contract: the number of each is an equation with a definition, and says which answer it is.
-- Rests on Rules, and on AnswerLaws of the crate ground.
use Rattle.std.specs.Prelude.{◌≡◌, ℕ}
use Rattle.ground.specs.Answers.{Answer, first, number_of}
use Rattle.ground.specs.AnswerLaws.{unique-answer}
use Rattle.sets.specs.declared.Set.{Set}
use Rattle.refusals.specs.Rules.{keygen_rules, sign_rules, verdict_rules, salt_rules}

-- each refusal, for the lengths p public, a ABQ, t private, x vinegar, y target, h salt, w work area, k key, g signature, o output

module _ (s : Set) {r r' : Answer} where
  pub unique-keygen-refusal : (p t o : ℕ) → number_of r ≡ first (keygen_rules s p t o) → number_of r' ≡ first (keygen_rules s p t o) → r ≡ r'
  unique-keygen-refusal p t o = unique-answer

  pub unique-sign-refusal : (p a t x y h w o : ℕ) → number_of r ≡ first (sign_rules s p a t x y h w o) → number_of r' ≡ first (sign_rules s p a t x y h w o) → r ≡ r'
  unique-sign-refusal p a t x y h w o = unique-answer

  pub unique-verdict-refusal : (p a y k g : ℕ) → number_of r ≡ first (verdict_rules s p a y k g) → number_of r' ≡ first (verdict_rules s p a y k g) → r ≡ r'
  unique-verdict-refusal p a y k g = unique-answer

  pub unique-salt-refusal : (g : ℕ) → number_of r ≡ first (salt_rules s g) → number_of r' ≡ first (salt_rules s g) → r ≡ r'
  unique-salt-refusal g = unique-answer
