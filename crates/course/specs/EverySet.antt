-- The pages that hold for every set (page 01, "Pages for the course"), of any outcome that meets the contract of signing or of the verdict:
-- zero vinegar, or a zero public stream: redo; zero signature elements: accepted exactly for a target whose elements are all 0.
-- "If 21 does not apply": nothing is refused, neither a length nor 21. Rests on ZeroLinear, on signing's exact redo and on scheme's `zero-signature-elements`.
use Rattle.std.specs.Prelude.{◌≡◌, Result, Ok, refl, Bool, true, false, ◌↔◌, List, ℕ, ◌<◌}
use Rattle.std.proofs.Common.{arith}
use Rattle.ground.specs.Answers.{first, Gives}
use Rattle.ground.specs.declared.Refusal.{Refusal}
use Rattle.packing.specs.Packing.{element}
use Rattle.sets.specs.declared.Set.{Set}
use Rattle.sets.specs.Sets.{public_count, vinegar_count, target_count, signature_count}
use Rattle.sets.specs.Bounds.{Limits}
use Rattle.scheme.specs.Streams.{vinegar_of}
use Rattle.scheme.specs.Refusals.{verdict_refusals}
use Rattle.scheme.specs.Verdict.{accepted}
use Rattle.scheme.proofs.Verdict.{zero-signature-elements}
use Rattle.verdict.specs.declared.Verdict.{Verdict}
use Rattle.verdict.specs.declared.Verdict.TheVariants.{Accepted, NotAccepted}
use Rattle.verdict.specs.Promise.{verdict_of, Verifies}
use Rattle.signing.specs.declared.Signing.{Signing}
use Rattle.signing.specs.declared.Signing.TheVariants.{Redo}
use Rattle.scheme.specs.Refusals.{sign_refusals}
use Rattle.signing.specs.Signs.{Signs}
use Rattle.checks.specs.Lent.{sign-lent}
use Rattle.signing.specs.Unique.{redo-exactly}
use Rattle.course.specs.ZeroLinear.{redo-zero-vinegar, redo-zero-public}

-- ---- signing

module _ {set : Set} {public abq private vinegar target salt work output : List ℕ} {r : Result Signing Refusal} {work' output' : List ℕ}
    (signs : Signs set public abq private vinegar target salt work output r work' output')
    (none : first (sign_refusals set public abq private vinegar target salt work output) ≡ 0) where
  -- nothing is refused, so the set is an allowed one
  within : Limits set
  within = (sign-lent set public abq private vinegar target salt work output none).bounds.limits

  -- Zero vinegar: redo, for every set.
  pub zero-vinegar-redo : ((e : ℕ) → e < vinegar_count set → element vinegar e ≡ 0) → r ≡ Ok Redo
  zero-vinegar-redo zeros =
      (redo-exactly signs none).1 (redo-zero-vinegar set public abq private within.o-least (omega (arith, within.l-least)) vinegar zeros)

  -- A zero public stream: redo, for every set.
  pub zero-public-redo : ((e : ℕ) → e < public_count set → element public e ≡ 0) → r ≡ Ok Redo
  zero-public-redo zeros =
      (redo-exactly signs none).1 (redo-zero-public set public abq private within.o-least (omega (arith, within.l-least)) (vinegar_of set vinegar) zeros)

-- ---- the verdict

-- where nothing is refused, the answer is accepted exactly where the comparison says so
accepted-answer : (ok : Bool) (n : ℕ) {r : Result Verdict Refusal} → n ≡ 0 → Gives n (verdict_of ok) r → (r ≡ Ok Accepted) ↔ (ok ≡ true)
accepted-answer true n none is = (λ a. refl, λ t. is.done none)
accepted-answer false n {r} none is = (λ a. never a, λ t. cc)
  where
    never : r ≡ Ok Accepted → false ≡ true
    never a = let not-accepted : r ≡ Ok NotAccepted = is.done none in cc

-- Zero signature elements: accepted exactly for a target whose elements are all 0, for every set.
pub zero-signature-accepted : (set : Set) (public abq target key signature : List ℕ) {r : Result Verdict Refusal}
    → Verifies set public abq target key signature r
    → first (verdict_refusals set public abq target key signature) ≡ 0
    → ((e : ℕ) → e < signature_count set → element signature e ≡ 0)
    → (r ≡ Ok Accepted) ↔ ((e : ℕ) → e < target_count set → element target e ≡ 0)
zero-signature-accepted set public abq target key signature is none zeros =
    let answer = accepted-answer (accepted set public abq key signature target) _ none is in
    let comparison = zero-signature-elements set public abq key signature target zeros in
    (λ a. comparison.0 (answer.0 a), λ z. answer.1 (comparison.1 z))
