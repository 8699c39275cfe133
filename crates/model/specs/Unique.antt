-- No second outcome meets the contract of the three calls one after the other: outcome, work area, key and signature are fixed by what went in.
-- Rests on the uniqueness of key generation and of signing.
use Rattle.std.specs.Prelude.{◌≡◌, Result, Ok, Err, refl, ◌⊎◌, List, ℕ}
use Rattle.std.proofs.Common.{sym, ap, ◌∙◌, inl, inr, arith}
use Rattle.ground.specs.declared.Refusal.{Refusal}
use Rattle.sets.specs.declared.Set.{Set}
use Rattle.keys.specs.Generates.{Generates}
use Rattle.keys.specs.Unique.{unique-generate}
use Rattle.signing.specs.declared.Signing.{Signing}
use Rattle.signing.specs.declared.Signing.TheVariants as Signings
use Rattle.signing.specs.Signs.{Signs}
use Rattle.signing.specs.Unique.{unique-sign}
use Rattle.model.specs.declared.Outcome.{Outcome}
use Rattle.model.specs.declared.Outcome.TheVariants.{Accepted, Redo}
use Rattle.model.specs.Chain.{SignsAndVerifies, key-refused, sign-refused, redo, accepted}

-- the outcome of a signing that key generation preceded
abbrev of_signing : Result Signing Refusal → Result Outcome Refusal
of_signing (Ok Signings.Done) = Ok Accepted
of_signing (Ok Signings.Redo) = Ok Redo
of_signing (Err e) = Err e

module _ (set : Set) (public abq private vinegar target salt work key output : List ℕ) where
  -- key generation refused, or signing was called: then its answer is the outcome
  record Stopped (r : Result Outcome Refusal) (work' key' signature : List ℕ) : Type 0 where
    pub n : Refusal
    pub generated : Generates set public private key (Err n) key'
    pub is : r ≡ Err n
    pub kept : (work' ≡ work) × (signature ≡ output)

  record Went (r : Result Outcome Refusal) (work' key' signature : List ℕ) : Type 0 where
    pub answer : Result Signing Refusal
    pub generated : Generates set public private key (Ok tt) key'
    pub signed : Signs set public abq private vinegar target salt work output answer work' signature
    pub is : r ≡ of_signing answer

  way : {r : Result Outcome Refusal} {work' key' signature : List ℕ} → SignsAndVerifies set public abq private vinegar target salt work key output r work' key' signature
      → Stopped r work' key' signature ⊎ Went r work' key' signature
  way (key-refused {n = n} g) = inl (record { n = n; generated = g; is = refl; kept = (refl, refl) })
  way (sign-refused {n = n} g s) = inr (record { answer = Err n; generated = g; signed = s; is = refl })
  way (redo g s) = inr (record { answer = Ok Signings.Redo; generated = g; signed = s; is = refl })
  way (accepted g s v) = inr (record { answer = Ok Signings.Done; generated = g; signed = s; is = refl })

  not-refused : {n : Refusal} {k k' : List ℕ} → Generates set public private key (Err n) k → Generates set public private key (Ok tt) k' → ⊥
  not-refused {n} g h = let e = (unique-generate set public private g h).0 in cc

  same-err : {m n : Refusal} → ◌≡◌ {A = Result Unit Refusal} (Err m) (Err n) → ◌≡◌ {A = Result Outcome Refusal} (Err m) (Err n)
  same-err e = cc

  pub unique-sign-and-verify : {r r' : Result Outcome Refusal} {w w' k k' s s' : List ℕ}
      → SignsAndVerifies set public abq private vinegar target salt work key output r w k s
      → SignsAndVerifies set public abq private vinegar target salt work key output r' w' k' s' → (r ≡ r') × ((w ≡ w') × ((k ≡ k') × (s ≡ s')))
  unique-sign-and-verify {r} {r'} {w} {w'} {k} {k'} {s} {s'} a b = by (way a) (way b)
    where
      by : Stopped r w k s ⊎ Went r w k s → Stopped r' w' k' s' ⊎ Went r' w' k' s' → (r ≡ r') × ((w ≡ w') × ((k ≡ k') × (s ≡ s')))
      by (inl x) (inl y) =
          let u = unique-generate set public private x.generated y.generated in
          (x.is ∙ same-err u.0 ∙ sym y.is, (x.kept.0 ∙ sym y.kept.0, (u.1, x.kept.1 ∙ sym y.kept.1)))
      by (inl x) (inr y) = absurd (not-refused x.generated y.generated)
      by (inr x) (inl y) = absurd (not-refused y.generated x.generated)
      by (inr x) (inr y) =
          let u = unique-generate set public private x.generated y.generated in
          let v = unique-sign x.signed y.signed in
          (x.is ∙ ap of_signing v.0 ∙ sym y.is, (v.1.0, (u.1, v.1.1)))
