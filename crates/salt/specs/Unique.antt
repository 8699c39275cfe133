-- No second outcome meets the salt's contracts: the bytes handed back, their place, and the number.
-- Rests on ground's `unique-equation`.
use Rattle.std.specs.Prelude.{◌≡◌, List, ℕ, ◌+◌}
use Rattle.ground.specs.Outcome.{unique-equation}
use Rattle.ground.specs.Answers.{Answer, number_of}
use Rattle.ground.specs.AnswerLaws.{unique-answer}
use Rattle.sets.specs.declared.Set.{Set}
use Rattle.salt.specs.Salt.{salt_refusal, salt_start, salt_of}

pub unique-salt : (set : Set) (signature : List ℕ) (at : ℕ) {r r' : List ℕ} {p p' : ℕ} → r ≡ salt_of set signature → p ≡ at + salt_start set signature
    → r' ≡ salt_of set signature → p' ≡ at + salt_start set signature → (r ≡ r') × (p ≡ p')
unique-salt set signature at a b c d = (unique-equation a c, unique-equation b d)

pub unique-salt-status : (set : Set) (signature : List ℕ) {r r' : Answer} → number_of r ≡ salt_refusal set signature → number_of r' ≡ salt_refusal set signature → r ≡ r'
unique-salt-status set signature = unique-answer
