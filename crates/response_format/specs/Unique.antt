-- No second outcome meets the contracts over a lent output.
-- Rests on Lent, and on Outcome of the crate ground.
use Rattle.std.specs.Prelude.{◌≡◌, List, ℕ, Result}
use Rattle.ground.specs.AnswerLaws.{unique-gives}
use Rattle.ground.specs.declared.Refusal.{Refusal}
use Rattle.ground.specs.Outcome.{unique-equation, unique-writes}
use Rattle.ground.specs.Answers.{Answer}
use Rattle.response_format.specs.Lent.{Decodes, Collects}
use Rattle.response_format.specs.declared.Collected.{Collected}

pub unique-decode : (digits before : List ℕ) {r r' : Answer} {after after' : List ℕ} → Decodes digits before r after → Decodes digits before r' after'
    → (r ≡ r') × (after ≡ after')
unique-decode digits before = unique-writes

pub unique-collect : (file : List ℕ) (n j : ℕ) (before : List ℕ) {r r' : Result Collected Refusal} {after after' : List ℕ} → Collects file n j before r after
    → Collects file n j before r' after' → (r ≡ r') × (after ≡ after')
unique-collect file n j before a b = (unique-gives a.answer b.answer, unique-equation a.output b.output)
