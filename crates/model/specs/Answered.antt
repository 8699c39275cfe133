-- What the first sentence says of one call, in page 01's numbers, and that each kind of promise gives it: done or refused, the verdict, signing.
-- Rests on ground's First and on the contracts' records of the crates below.
use Rattle.std.specs.Prelude.{◌≡◌, Result, Ok, Err, refl, Bool, true, false, ◌↔◌, ◌⊎◌, ℕ, ◌<◌, ◌≤◌, T, length}
use Rattle.std.proofs.Common.{sym, ap, ap₂, subst, ◌∙◌, inl, inr, ⊎_elim, arith, eq-eqb, ne_eqb}
use mathlib.Core.List.Memᴰ
use mathlib.Core.List.{List, [], ◌∷◌, ◌++◌, Memᴰ}
use Rattle.std.proofs.Math.Decide.{ℕ_discrete}
use Rattle.ground.specs.Answers.{Answer, Gives, Rule, Met, first, number_of}
use Rattle.ground.specs.declared.Refusal.{Refusal}
use Rattle.ground.specs.Outcome.{Writes}
use Rattle.sets.specs.declared.Set.{Set}
use Rattle.ground.specs.First.{First, numbers, above, first-exactly, none-exactly, first_above, first-listed}
use Rattle.ground.specs.Applies.{Lowest, rising, lowest-exactly}
use Rattle.verdict.specs.declared.Verdict.{Verdict}
use Rattle.verdict.specs.Promise.{verdict_of}
use Rattle.verdict.specs.Promise.{number_of as verdict_number}
use Rattle.model.specs.Accepted.{verdict-refused}
use Rattle.rows.specs.Zero.{zeros}
use Rattle.signing.specs.declared.Signing.{Signing}
use Rattle.signing.specs.declared.Signing.TheVariants.{Done, Redo}
use Rattle.scheme.specs.Refusals.{sign_refusals}
use Rattle.signing.specs.Signs.{Signs}
use Rattle.signing.specs.Signs.{number_of as sign_number}

-- A call of an operation with these refusals was answered by n; before and after are the buffers that it may write.
pub record Answered (page : List ℕ) (refusals : List Rule) (n : ℕ) (before after : List (List ℕ)) : Type 0 where
  -- the number is one of the page's for this operation
  pub listed : Memᴰ n page
  -- a refusal is given exactly where it is the first in the operation's order that applies: the rules before it are met, and this one is not
  pub refused : (k : ℕ) → 10 ≤ k → (n ≡ k) ↔ First k refusals
  -- 0, 1 and 2 exactly where every rule is met
  pub passed : (n < 10) ↔ Met refusals
  -- a refusal leaves every buffer as it was
  pub untouched : 10 ≤ n → after ≡ before

-- the rules' numbers are 10 and above; the outcomes are what the operation answers where nothing is refused
module _ (outcomes : List ℕ) (refusals : List Rule) (up : T (above 9 refusals)) {n : ℕ} {before after : List (List ℕ)} where
  -- the answer is the first refusal; where there is none, an outcome
  answered : ((first refusals ≡ 0 → ⊥) → n ≡ first refusals) → (first refusals ≡ 0 → Memᴰ n outcomes × (n < 10))
      → ((first refusals ≡ 0 → ⊥) → after ≡ before) → Answered (outcomes ++ numbers refusals) refusals n before after
  answered is outcome kept = record {
    listed = elim (ℕ_discrete (first refusals) 0) [ yes z ↦ Memᴰ.append_left (numbers refusals) (outcome z).0 | no z ↦ Memᴰ.append_right outcomes (number z) ];
    refused = λ k h. ((λ e. (exact k h).0 (same k h e)), (λ w. is (some k h ((exact k h).1 w)) ∙ (exact k h).1 w));
    passed = ((λ h. (none-exactly 9 refusals up).0 (zero h)), (λ w. (outcome ((none-exactly 9 refusals up).1 w)).1));
    untouched = λ h. kept (λ z. let o = (outcome z).1 in omega arith);
  }
    where
      number : (first refusals ≡ 0 → ⊥) → Memᴰ n (numbers refusals)
      number z = by (Memᴰ.cases_cons (first-listed refusals))
        where
          by : (first refusals ≡ 0) ⊎ Memᴰ (first refusals) (numbers refusals) → Memᴰ n (numbers refusals)
          by (inl e) = absurd (z e)
          by (inr m) = Memᴰ.cast (is z) m

      exact : (k : ℕ) → 10 ≤ k → (first refusals ≡ k) ↔ First k refusals
      exact k h = first-exactly refusals k (omega arith)

      some : (k : ℕ) → 10 ≤ k → first refusals ≡ k → first refusals ≡ 0 → ⊥
      some k h e z = omega arith

      same : (k : ℕ) → 10 ≤ k → n ≡ k → first refusals ≡ k
      same k h e =
          elim (ℕ_discrete (first refusals) 0) [
            | yes z ↦ let o = (outcome z).1 in absurd (omega arith)
            | no z ↦ sym (is z) ∙ e
          ]

      zero : n < 10 → first refusals ≡ 0
      zero h =
          elim (ℕ_discrete (first refusals) 0) [
            | yes z ↦ z
            | no z ↦ absurd (omega (arith, is z, first_above 9 refusals up z))
          ]

-- in an operation whose numbers rise, as page 01's do, the refusal given is the lowest that applies
pub answered-lowest : {page : List ℕ} (refusals : List Rule) {n : ℕ} {before after : List (List ℕ)} → T (rising 9 refusals)
    → Answered page refusals n before after → (k : ℕ) → 10 ≤ k → (n ≡ k) ↔ Lowest k refusals
answered-lowest refusals up a k h =
    let exact = lowest-exactly 9 refusals up k in
    ((λ e. exact.0 ((a.refused k h).0 e)), (λ w. (a.refused k h).1 (exact.1 w)))

-- done or refused, with one output
pub writes-answered : (refusals : List Rule) → T (above 9 refusals) → {result before after : List ℕ} {r : Answer}
    → Writes (first refusals) result before r after → Answered (0 ∷ numbers refusals) refusals (number_of r) (before ∷ []) (after ∷ [])
writes-answered refusals up w =
    answered (0 ∷ []) refusals up (λ z. w.answer) (λ z. (Memᴰ.head (w.answer ∙ z), omega (arith, w.answer, z))) (λ z. ap (λ s. s ∷ []) (w.refused z))

-- done or refused, and nothing is written
pub status-answered : (refusals : List Rule) → T (above 9 refusals) → {n : ℕ} → n ≡ first refusals → Answered (0 ∷ numbers refusals) refusals n [] []
status-answered refusals up e =
    answered (0 ∷ []) refusals up (λ z. e) (λ z. (Memᴰ.head (e ∙ z), omega (arith, e, z))) (λ z. refl)

-- a number that is 0 where nothing is refused, and nothing is written
pub value-answered : (refusals : List Rule) → T (above 9 refusals) → {n : ℕ} → ((first refusals ≡ 0 → ⊥) → n ≡ first refusals) → (first refusals ≡ 0 → n ≡ 0)
    → Answered (0 ∷ numbers refusals) refusals n [] []
value-answered refusals up is done = answered (0 ∷ []) refusals up is (λ z. (Memᴰ.head (done z), omega (arith, done z))) (λ z. refl)

-- ---- the verdict

verdict-passed : (ok : Bool) {r : Result Verdict Refusal} → r ≡ Ok (verdict_of ok) → Memᴰ (verdict_number r) (0 ∷ 1 ∷ []) × (verdict_number r < 10)
verdict-passed true e = rw e (Memᴰ.head refl, omega arith)
verdict-passed false e = rw e (Memᴰ.tail (Memᴰ.head refl), omega arith)

pub verdict-answered : (refusals : List Rule) → T (above 9 refusals) → {r : Result Verdict Refusal} (ok : Bool) → Gives (first refusals) (verdict_of ok) r
    → Answered (0 ∷ 1 ∷ numbers refusals) refusals (verdict_number r) [] []
verdict-answered refusals up {r} ok v =
    answered (0 ∷ 1 ∷ []) refusals up (λ z. verdict-refused r (λ w. z (sym v.number ∙ w)) ∙ v.number) (λ z. verdict-passed ok (v.done z)) (λ z. refl)

-- ---- signing

module _ {set : Set} {public abq private vinegar target salt work output : List ℕ} {r : Result Signing Refusal} {work' output' : List ℕ}
    (a : Signs set public abq private vinegar target salt work output r work' output') where
  -- a refusal's number is its own
  sign-refused : (first (sign_refusals set public abq private vinegar target salt work output) ≡ 0 → ⊥)
      → sign_number r ≡ first (sign_refusals set public abq private vinegar target salt work output)
  sign-refused z = by r (λ w. z (sym (a.refused z).0 ∙ w)) ∙ (a.refused z).0
    where
      by : (r : Result Signing Refusal) → (number_of r ≡ 0 → ⊥) → sign_number r ≡ number_of r
      by (Ok s) some = absurd (some refl)
      by (Err e) some = refl

  -- 0 is done, and 2 where nothing is refused is redo
  pub sign-done : sign_number r ≡ 0 → r ≡ Ok Done
  sign-done e =
      elim (ℕ_discrete (first (sign_refusals set public abq private vinegar target salt work output)) 0) [
        | yes z ↦ ⊎_elim (λ d. d) (λ d. absurd (omega (arith, sym (ap sign_number d) ∙ e))) (a.answered z)
        | no z ↦ absurd (z (sym (sign-refused z) ∙ e))
      ]

  pub sign-redo : first (sign_refusals set public abq private vinegar target salt work output) ≡ 0 → sign_number r ≡ 2 → r ≡ Ok Redo
  sign-redo z e = ⊎_elim (λ d. absurd (omega (arith, sym (ap sign_number d) ∙ e))) (λ d. d) (a.answered z)

  pub sign-answered : T (above 9 (sign_refusals set public abq private vinegar target salt work output))
      → Answered (0 ∷ 2 ∷ numbers (sign_refusals set public abq private vinegar target salt work output))
      (sign_refusals set public abq private vinegar target salt work output) (sign_number r) (work ∷ output ∷ []) (work' ∷ output' ∷ [])
  sign-answered up =
      answered (0 ∷ 2 ∷ []) (sign_refusals set public abq private vinegar target salt work output) up sign-refused
      (λ z. ⊎_elim
      (λ d. (Memᴰ.head (ap sign_number d), omega (arith, ap sign_number d)))
      (λ d. (Memᴰ.tail (Memᴰ.head (ap sign_number d)), omega (arith, ap sign_number d)))
      (a.answered z))
      (λ z. ap₂ (λ w s. w ∷ s ∷ []) (a.refused z).1.0 (a.refused z).1.1)

  module _ (up : T (above 9 (sign_refusals set public abq private vinegar target salt work output))) where
    sign-passed : sign_number r < 10 → first (sign_refusals set public abq private vinegar target salt work output) ≡ 0
    sign-passed h = (none-exactly 9 _ up).1 ((sign-answered up).passed.0 h)

    -- after 0 and 2 the work area is all zero
    pub sign-wiped : (sign_number r ≡ 0) ⊎ (sign_number r ≡ 2) → work' ≡ zeros (length work)
    sign-wiped w = a.wiped (sign-passed (⊎_elim (λ e. omega (arith, e)) (λ e. omega (arith, e)) w))

    -- and after 2 the output is as it was
    pub sign_kept : sign_number r ≡ 2 → output' ≡ output
    sign_kept e = (a.redo (sign-redo (sign-passed (omega (arith, e))) e)).1
