-- No second outcome meets a contract of this crate.
-- Rests on ground's `unique-equation` and on Difference.
use Rattle.std.specs.Prelude.{◌≡◌, Result, List, ℕ, get_or}
use Rattle.ground.specs.Outcome.{unique-equation}
use Rattle.ground.specs.AnswerLaws.{unique-gives}
use Rattle.ground.specs.declared.Refusal.{Refusal}
use Rattle.packing.specs.Packing.{element}
use Rattle.sets.specs.declared.Set.{Set}
use Rattle.verdict.specs.declared.Verdict.{Verdict}
use Rattle.verdict.specs.Promise.{number_of, Verifies}
use Rattle.verdict.specs.Difference.{FirstDifference, unique-difference}

pub unique-verify : (set : Set) (public abq target key signature : List ℕ) {r r' : Result Verdict Refusal} → Verifies set public abq target key signature r
    → Verifies set public abq target key signature r' → r ≡ r'
unique-verify set public abq target key signature = unique-gives

pub unique-number : (verdict : Result Verdict Refusal) {n n' : ℕ} → n ≡ number_of verdict → n' ≡ number_of verdict → n ≡ n'
unique-number verdict = unique-equation

pub unique-first-difference : (values target : List ℕ) (n : ℕ) {r r' : ℕ} → FirstDifference n (λ e. get_or values e 0) (element target) r
    → FirstDifference n (λ e. get_or values e 0) (element target) r' → r ≡ r'
unique-first-difference values target n = unique-difference
