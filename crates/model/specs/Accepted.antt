-- What signing emits under the generated key is accepted: its length and the key's are those that the verdict asks for, nothing else is refused, and the map meets the target.
-- Rests on signing's `signed-accepted`, and on sets' exact lengths.
use Rattle.std.specs.Prelude.{◌≡◌, Result, Ok, Err, refl, Bool, true, false, ◌↔◌, List, ℕ, length}
use Rattle.std.proofs.Common.{sym, ap, ◌∙◌, arith, eq-eqb, ne_eqb, length-append}
use Rattle.std.proofs.Math.Decide.{ℕ_discrete}
use Rattle.ground.specs.Pick.{pick}
use Rattle.ground.specs.Answers.{Answer, Gives, first, number_of}
use Rattle.ground.specs.AnswerLaws.{done-answer}
use Rattle.ground.specs.declared.Refusal.{Refusal}
use Rattle.ground.specs.Fill.{length-tab}
use Rattle.ground.specs.Outcome.{Writes}
use Rattle.packing.specs.Packing.{packed_bytes}
use Rattle.packing.proofs.Laws.{length-packed}
use Rattle.sets.specs.declared.Set.{Set}
use Rattle.sets.specs.Sets.{signature_bytes, salt_bytes}
use Rattle.sets.specs.Bounds.{allowed-from}
use Rattle.checks.specs.Lent.{sign-lent, verdict-not-refused}
use Rattle.matrix.specs.Matrix.{Matrix}
use Rattle.scheme.specs.Maps.{key_of}
use Rattle.scheme.specs.Key.{length-key_of}
use Rattle.scheme.specs.Refusals.{verdict_refusals}
use Rattle.verdict.specs.declared.Verdict.{Verdict}
use Rattle.verdict.specs.declared.Verdict.TheVariants.{Accepted, NotAccepted}
use Rattle.verdict.specs.Promise.{verdict_of}
use Rattle.verdict.specs.Promise.{number_of as verdict_number}
use Rattle.signing.specs.declared.Signing.TheVariants as Signings
use Rattle.scheme.specs.Refusals.{sign_refusals}
use Rattle.signing.specs.Signs.{signature_with, Signs}
use Rattle.signing.specs.Unique.{signed-accepted}
use Rattle.verdict.specs.Promise.{Verifies}

-- ---- what was written with 0

module _ {refusal : ℕ} {result before : List ℕ} {r : Answer} {after : List ℕ} (w : Writes refusal result before r after) (e : number_of r ≡ 0) where
  no-refusal : refusal ≡ 0
  no-refusal = sym w.answer ∙ e

  pub answer-zero : r ≡ Ok tt
  answer-zero = done-answer e

  pub written-zero : after ≡ result
  written-zero = w.done no-refusal

-- ---- the verdict's numbers

-- a refusal's number is its own
pub verdict-refused : (r : Result Verdict Refusal) → (number_of r ≡ 0 → ⊥) → verdict_number r ≡ number_of r
verdict-refused (Ok v) z = absurd (z refl)
verdict-refused (Err e) z = refl

module _ {refusal : ℕ} {ok : Bool} {r : Result Verdict Refusal} (v : Gives refusal (verdict_of ok) r) where
  -- 0 exactly where nothing is refused and the comparison holds
  pub verdict-zero : (verdict_number r ≡ 0) ↔ ((refusal ≡ 0) × (ok ≡ true))
  verdict-zero = (by, λ e. ap verdict_number (v.done e.0) ∙ fits ok e.1)
    where
      fits : (b : Bool) → b ≡ true → verdict_number (Ok (verdict_of b)) ≡ 0
      fits true e = refl
      fits false e = cc

      compared : (b : Bool) → verdict_number (Ok (verdict_of b)) ≡ 0 → b ≡ true
      compared true e = refl
      compared false e = absurd (omega arith)

      by : verdict_number r ≡ 0 → (refusal ≡ 0) × (ok ≡ true)
      by e =
          elim (ℕ_discrete refusal 0) [
            | yes z ↦ (z, compared ok (sym (ap verdict_number (v.done z)) ∙ e))
            | no z ↦ absurd (z (sym v.number ∙ sym (verdict-refused r (λ w. z (sym v.number ∙ w))) ∙ e))
          ]

-- ---- what signing emitted

length-signature : (set : Set) (private vinegar salt : List ℕ) (oil : ℕ → Matrix) → length salt ≡ salt_bytes
    → length (signature_with set private vinegar salt oil) ≡ signature_bytes set
unfolding signature_with signature_bytes packed_bytes
length-signature set private vinegar salt oil e = simp (length-append, length-packed, length-tab, e)

module _ (set : Set) (public abq private vinegar target salt work output : List ℕ) {work' signature : List ℕ}
    (s : Signs set public abq private vinegar target salt work output (Ok Signings.Done) work' signature) where
  -- done is answered only where nothing is refused
  done-fits : first (sign_refusals set public abq private vinegar target salt work output) ≡ 0
  done-fits =
      elim (ℕ_discrete (first (sign_refusals set public abq private vinegar target salt work output)) 0) [
        | yes z ↦ z
        | no z ↦ absurd (z (sym (s.refused z).0))
      ]

  -- the verdict refuses neither it nor the generated key
  emitted-fits : first (verdict_refusals set public abq target (key_of set public private) signature) ≡ 0
  emitted-fits =
      let f = sign-lent set public abq private vinegar target salt work output done-fits in
      let e = s.done refl in
      verdict-not-refused set public abq target (key_of set public private) signature (record {
        allowed = allowed-from f.bounds.limits;
        public-long = f.public-long;
        abq-lent = f.abq-lent;
        target-long = f.target-long;
        key-long = length-key_of set public private;
        signature-long = ap length e.bytes ∙ length-signature set private vinegar salt e.oil f.salt-long;
      })

  -- and accepts it
  pub emitted-verdict : {r : Result Verdict Refusal} → Verifies set public abq target (key_of set public private) signature r → r ≡ Ok Accepted
  emitted-verdict v = v.done emitted-fits ∙ ap (λ t. Ok (verdict_of t)) (signed-accepted s)
