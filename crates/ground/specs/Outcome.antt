-- What an operation with one output promises, and that no second outcome meets the promise.
-- Rests on Answers.
use Rattle.std.specs.Prelude.{◌≡◌, List, ◌⊎◌, ℕ}
use Rattle.std.proofs.Common.{sym, ◌∙◌, ⊎_elim}
use Rattle.std.proofs.Math.Decide.{ℕ_discrete}
use Rattle.ground.specs.Answers.{Answer, number_of}
use Rattle.ground.specs.AnswerLaws.{same-answer}

-- the answer's number is the refusal's, 0 for done; a refusal leaves the output as it was; done leaves the result there, whole
pub record Writes (refusal : ℕ) (result before : List ℕ) (r : Answer) (after : List ℕ) : Type 0 where
  pub answer : number_of r ≡ refusal
  pub refused : (refusal ≡ 0 → ⊥) → after ≡ before
  pub done : refusal ≡ 0 → after ≡ result

pub unique-writes : {n : ℕ} {result before : List ℕ} {r r' : Answer} {after after' : List ℕ} → Writes n result before r after → Writes n result before r' after'
    → (r ≡ r') × (after ≡ after')
unique-writes {n} {r = r} {r'} a b = (
  same-answer r r' (a.answer ∙ sym b.answer),
  elim (ℕ_discrete n 0) [ yes e ↦ a.done e ∙ sym (b.done e) | no e ↦ a.refused e ∙ sym (b.refused e) ],
)

-- an operation that writes its result where nothing is refused, and otherwise nothing
pub writes-by : {n : ℕ} {result before : List ℕ} {r : Answer} {after : List ℕ} → number_of r ≡ n
    → ((n ≡ 0) × (after ≡ result)) ⊎ ((n ≡ 0 → ⊥) × (after ≡ before)) → Writes n result before r after
writes-by a w =
    record {
      answer = a;
      refused = λ p. ⊎_elim (λ d. absurd (p d.0)) (λ u. u.1) w;
      done = λ p. ⊎_elim (λ d. d.1) (λ u. absurd (u.0 p)) w;
    }

-- a contract that is an equation with a definition has one outcome
pub unique-equation : {A : Type 0} {a b c : A} → a ≡ c → b ≡ c → a ≡ b
unique-equation p q = p ∙ sym q
