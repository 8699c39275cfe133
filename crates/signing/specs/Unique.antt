-- What follows from signing's promise alone: no second outcome meets it, redo is exact, and what is emitted is accepted under the generated key.
-- Rests on Signature, and on scheme's `redo-exclusive`, `unique-oil` and `accepted-change`.
use Rattle.std.specs.Prelude.{◌≡◌, Result, Ok, true, ◌⊎◌, ◌↔◌, List, ℕ}
use Rattle.std.proofs.Common.{sym, ◌∙◌, inl, inr}
use Rattle.std.proofs.Math.Decide.{ℕ_discrete}
use Rattle.ground.specs.Answers.{first}
use Rattle.ground.specs.AnswerLaws.{same-refusal}
use Rattle.ground.specs.declared.Refusal.{Refusal}
use Rattle.sets.specs.declared.Set.{Set}
use Rattle.scheme.specs.Streams.{vinegar_of}
use Rattle.scheme.specs.Maps.{central_map, key_of}
use Rattle.scheme.specs.Oil.{joined, OnlyZero, redo-exclusive}
use Rattle.scheme.proofs.Oil.{unique-oil}
use Rattle.scheme.specs.Verdict.{accepted, entries-meet}
use Rattle.scheme.proofs.Verdict.{accepted-change}
use Rattle.signing.specs.declared.Signing.{Signing}
use Rattle.signing.specs.declared.Signing.TheVariants.{Done, Redo}
use Rattle.ground.specs.Outcome.{unique-equation}
use Rattle.scheme.specs.Refusals.{sign_refusals}
use Rattle.signing.specs.Signs.{number_of, Again, Emitted, Signs}
use Rattle.signing.specs.Signature.{signature-cong}

pub unique-number : (answer : Result Signing Refusal) {n n' : ℕ} → n ≡ number_of answer → n' ≡ number_of answer → n ≡ n'
unique-number answer = unique-equation

module _ {set : Set} {public abq private vinegar target salt : List ℕ} where
  -- two signatures that were emitted at the same inputs are the same bytes
  unique-emitted : {s t : List ℕ} → Emitted set public abq private vinegar target salt s → Emitted set public abq private vinegar target salt t → s ≡ t
  unique-emitted a b =
      a.bytes ∙ signature-cong set private vinegar salt (unique-oil a.only_zero a.choice b.choice a.solves b.solves) ∙ sym b.bytes

  -- what is emitted is accepted under the key that key generation gives
  emitted-accepted : {s : List ℕ} → Emitted set public abq private vinegar target salt s → accepted set public abq (key_of set public private) s target ≡ true
  emitted-accepted {s} a =
      accepted-change set public abq private s target (joined set (vinegar_of set vinegar) a.oil) a.holds
      ∙ entries-meet set (central_map set public abq private (joined set (vinegar_of set vinegar) a.oil)) target a.solves.equal

  module _ {work output : List ℕ} where
    -- Every signature that signing emits is accepted.
    pub signed-accepted : {work' output' : List ℕ} → Signs set public abq private vinegar target salt work output (Ok Done) work' output'
        → accepted set public abq (key_of set public private) output' target ≡ true
    signed-accepted a = emitted-accepted (a.done (cc))

    module _ {r : Result Signing Refusal} {work' output' : List ℕ} (a : Signs set public abq private vinegar target salt work output r work' output')
        (fits : first (sign_refusals set public abq private vinegar target salt work output) ≡ 0) where
      -- where nothing is refused, redo is answered exactly where some oil choice, not all zero, is sent to zero
      pub redo-exactly : (r ≡ Ok Redo) ↔ Again set public abq private vinegar target
      redo-exactly = ((λ e. (a.redo e).0), (λ again. by (a.answered fits) again))
        where
          by : (r ≡ Ok Done) ⊎ (r ≡ Ok Redo) → Again set public abq private vinegar target → r ≡ Ok Redo
          by (inl e) again = absurd (redo-exclusive again (a.done e).only_zero)
          by (inr e) again = e

      -- and done exactly where only all-zero oil is
      pub done-exactly : (r ≡ Ok Done) ↔ OnlyZero set public abq private (vinegar_of set vinegar)
      done-exactly = ((λ e. (a.done e).only_zero), (λ only. by (a.answered fits) only))
        where
          by : (r ≡ Ok Done) ⊎ (r ≡ Ok Redo) → OnlyZero set public abq private (vinegar_of set vinegar) → r ≡ Ok Done
          by (inl e) only = e
          by (inr e) only = absurd (redo-exclusive (a.redo e).0 only)

    -- No second outcome meets the promise: the answer, the work area and the output are fixed by what went in.
    pub unique-sign : {r r' : Result Signing Refusal} {w w' s s' : List ℕ} → Signs set public abq private vinegar target salt work output r w s
        → Signs set public abq private vinegar target salt work output r' w' s' → (r ≡ r') × ((w ≡ w') × (s ≡ s'))
    unique-sign {r} {r'} {w} {w'} {s} {s'} a b =
        elim (ℕ_discrete (first (sign_refusals set public abq private vinegar target salt work output)) 0) [
          | yes e ↦ by e (a.answered e) (b.answered e)
          | no n ↦
              let p = a.refused n in
              let q = b.refused n in
              (same-refusal r r' (p.0 ∙ sym q.0) (λ z. n (sym p.0 ∙ z)), (p.1.0 ∙ sym q.1.0, p.1.1 ∙ sym q.1.1))
        ]
      where
        by : first (sign_refusals set public abq private vinegar target salt work output) ≡ 0 → (r ≡ Ok Done) ⊎ (r ≡ Ok Redo) → (r' ≡ Ok Done) ⊎ (r' ≡ Ok Redo)
            → (r ≡ r') × ((w ≡ w') × (s ≡ s'))
        by e (inl p) (inl q) = (p ∙ sym q, (a.wiped e ∙ sym (b.wiped e), unique-emitted (a.done p) (b.done q)))
        by e (inl p) (inr q) = absurd (redo-exclusive (b.redo q).0 (a.done p).only_zero)
        by e (inr p) (inl q) = absurd (redo-exclusive (a.redo p).0 (b.done q).only_zero)
        by e (inr p) (inr q) = (p ∙ sym q, (a.wiped e ∙ sym (b.wiped e), (a.redo p).1 ∙ sym (b.redo q).1))
