-- What verification promises: the verdict is that of the first refusal, and where there is none that of the comparison (page 01, "Numbers a caller can receive").
-- Rests on scheme's refusals and `accepted`, and on ground's answers.
use Rattle.std.specs.Prelude.{Bool, List, ℕ, Result}
use Rattle.ground.specs.Pick.{pick}
use Rattle.ground.specs.Answers.{first, numbered, Gives}
use Rattle.ground.specs.declared.Refusal.{Refusal}
use Rattle.sets.specs.declared.Set.{Set}
use Rattle.scheme.specs.Refusals.{verdict_refusals}
use Rattle.scheme.specs.Verdict.{accepted}
use Rattle.verdict.specs.declared.Verdict.{Verdict}
use Rattle.verdict.specs.declared.Verdict.TheVariants.{Accepted, NotAccepted}

-- the verdict of the comparison
abbrev pub verdict_of : Bool → Verdict
verdict_of ok = pick ok Accepted NotAccepted

-- the page's number of a verdict
abbrev pub number_of_verdict : Verdict → ℕ
number_of_verdict Accepted = 0
number_of_verdict NotAccepted = 1

-- and of a verdict or a refusal
abbrev pub number_of : Result Verdict Refusal → ℕ
number_of = numbered number_of_verdict

-- What the verdict promises: the first refusal, and where there is none the verdict of the comparison.
abbrev pub Verifies : (set : Set) (public abq target key signature : List ℕ) (r : Result Verdict Refusal) → Type 0
Verifies set public abq target key signature r =
    Gives (first (verdict_refusals set public abq target key signature)) (verdict_of (accepted set public abq key signature target)) r
