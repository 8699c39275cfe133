-- What salvage promises of its answer and of the lent output and list, before and after; and that no second outcome meets the promise.
-- Rests on books' Salvage.
use Rattle.std.specs.Prelude.{◌≡◌, Result, Ok, Err, refl, true, List, [], ◌∷◌, ℕ, ◌/◌, eqb, length}
use Rattle.std.proofs.Common.{sym, ap, ◌∙◌, arith, eqb-true}
use Rattle.std.proofs.Math.Decide.{ℕ_discrete}
use Rattle.ground.specs.Answers.{Rule, code, unless, first}
use Rattle.ground.specs.Answers.{number_of as refusal_number}
use Rattle.ground.specs.AnswerLaws.{code-some, same-refusal}
use Rattle.ground.specs.declared.Refusal.{Refusal}
use Rattle.ground.specs.declared.Refusal.TheVariants.{OutputLength, BookSize}
use Rattle.ground.specs.First.{first_passes}
use Rattle.ground.specs.Outcome.{unique-equation}
use Rattle.ground.specs.Paste.{Pasted}
use Rattle.books.specs.Book.{whole}
use Rattle.books.specs.Salvage.{kept_parts, numbers_of, salvaged}

-- 40 size not whole blocks or too many, then 20 for the length of the output, then of the list
abbrev pub salvage_rules : List ℕ → List ℕ → List ℕ → List Rule
salvage_rules s out list = unless BookSize (whole s) ∷ unless OutputLength (eqb (length out) (length s)) ∷ unless OutputLength (eqb (length list) (length s / 512)) ∷ []

-- the page's number of an answer: 0 beside the count of kept blocks
abbrev pub number_of : Result ℕ Refusal → ℕ
number_of r = refusal_number r

pub record Salvages (s out list : List ℕ) (r : Result ℕ Refusal) (out' list' : List ℕ) : Type 0 where
  -- a refusal is the first that applies, and nothing is written
  pub refused : (first (salvage_rules s out list) ≡ 0 → ⊥) → (refusal_number r ≡ first (salvage_rules s out list)) × ((out' ≡ out) × (list' ≡ list))
  -- else the count of kept blocks is answered,
  pub count : first (salvage_rules s out list) ≡ 0 → r ≡ Ok (length (kept_parts s))
  -- the new book stands at the start of the output, and what follows it stays as it was,
  pub written : first (salvage_rules s out list) ≡ 0 → Pasted out 0 (salvaged s) out'
  -- and the list tells what became of each old block
  pub listed : first (salvage_rules s out list) ≡ 0 → list' ≡ numbers_of s

pub unique-salvage : (s out list : List ℕ) {r r' : Result ℕ Refusal} {o o' l l' : List ℕ} → Salvages s out list r o l → Salvages s out list r' o' l'
    → (r ≡ r') × ((o ≡ o') × (l ≡ l'))
unique-salvage s out list {r} {r'} a b =
    elim (ℕ_discrete (first (salvage_rules s out list)) 0) [
      | yes z ↦ (unique-equation (a.count z) (b.count z), (unique-equation (a.written z).is (b.written z).is, unique-equation (a.listed z) (b.listed z)))
      | no z ↦
          let p = a.refused z in
          let q = b.refused z in
          (same-refusal r r' (p.0 ∙ sym q.0) (λ w. z (sym p.0 ∙ w)), (unique-equation p.1.0 q.1.0, unique-equation p.1.1 q.1.1))
    ]

-- no refusal: whole blocks, an output and a list that fit
pub salvage-fits : (s out list : List ℕ) → first (salvage_rules s out list) ≡ 0 → (whole s ≡ true) × ((length out ≡ length s) × (length list ≡ length s / 512))
salvage-fits s out list e =
    let a = first_passes BookSize (whole s) (unless OutputLength (eqb (length out) (length s)) ∷ unless OutputLength (eqb (length list) (length s / 512)) ∷ []) e in
    let b = first_passes OutputLength (eqb (length out) (length s)) (unless OutputLength (eqb (length list) (length s / 512)) ∷ []) a.1 in
    let c = first_passes OutputLength (eqb (length list) (length s / 512)) [] b.1 in
    (a.0, (eqb-true _ _ b.0, eqb-true _ _ c.0))

-- ---- from what the code's calls give

pub salvage-refused : (s out list : List ℕ) (r : Refusal) → code r ≡ first (salvage_rules s out list) → Salvages s out list (Err r) out list
salvage-refused s out list r e = record {
  refused = λ _. (e, (refl, refl));
  count = λ p. absurd (code-some r (e ∙ p));
  written = λ p. absurd (code-some r (e ∙ p));
  listed = λ p. absurd (code-some r (e ∙ p));
}

pub salvage-done : (s out list : List ℕ) {k : ℕ} {out' list' : List ℕ} → first (salvage_rules s out list) ≡ 0 → k ≡ length (kept_parts s) → Pasted out 0 (salvaged s) out'
    → list' ≡ numbers_of s → Salvages s out list (Ok k) out' list'
salvage-done s out list z c p l = record { refused = λ q. absurd (q z); count = λ _. ap Ok c; written = λ _. p; listed = λ _. l }
