-- Refusal 21, block by block: the first that is refused decides.
-- Rests on ground's tests and answers, and on streams' blocks that pass.
use Rattle.std.specs.Prelude.{◌≡◌, Result, Ok, Err, Bool, List, [], ◌∷◌, ℕ, ◌+◌, ◌*◌, ◌<◌, ◌≤◌}
use Rattle.std.proofs.Math.Path.{refl, sym, ap}
use Rattle.std.proofs.Common.{◌∙◌, arith}
use Rattle.std.proofs.Math.Bool.{true, false}
use Rattle.ground.specs.Pick.{pick}
use Rattle.ground.specs.Tests.{every}
use Rattle.ground.specs.Answers.{code, number_of, first, unless}
use Rattle.ground.specs.declared.Refusal.TheVariants.{NotInvertible}
use Rattle.ground.specs.declared.Refusal.{Refusal}
use Rattle.sets.specs.declared.Set.{Set}
use Rattle.sets.specs.Sets.{all_terms}
use Rattle.ground.specs.AnswerLaws.{answer-done, code-some}
use Rattle.scheme.specs.Maps.{all_invertible}
use Rattle.ground.specs.Tests.{every-none, every_more, every-fails}
use Rattle.streams.specs.TermOf.{passes}

-- the loop: the first b blocks pass
pub record Passing (l : ℕ) (abq : List ℕ) (count b : ℕ) : Type 0 where
  pub upto : b ≤ count
  pub so_far : every b (passes l abq) ≡ true

pub passing-none : {l : ℕ} {abq : List ℕ} {count : ℕ} → Passing l abq count 0
passing-none {l} {abq} = record { upto = omega arith; so_far = every-none (passes l abq) }

picked : (b : Bool) → ◌≡◌ {A = ℕ} (pick b 0 21) 0 → b ≡ true
picked true e = refl
picked false e = absurd (omega arith)

pub passing-next : {l : ℕ} {abq : List ℕ} {count b : ℕ} {A : Type 0} {a : Result A Refusal} {x : A} → Passing l abq count b → b < count
    → number_of a ≡ pick (passes l abq b) 0 21 → a ≡ Ok x → Passing l abq count (b + 1)
passing-next {l} {abq} {b = b} p h is done =
    record { upto = omega arith; so_far = every_more b (passes l abq) p.so_far (picked (passes l abq b) (answer-done _ is done)) }

-- the rule's number, by whether every block passes
answer-21 : (met : Bool) → first (unless NotInvertible met ∷ []) ≡ pick met 0 21
unfolding first
answer-21 true = refl
answer-21 false = refl

module _ (set : Set) (abq : List ℕ) where
  -- all blocks pass
  passing-all : {count b : ℕ} → count ≡ 2 * all_terms set → Passing set.l abq count b → count ≤ b → all_invertible set abq ≡ true
  unfolding all_invertible
  passing-all {count} {b} e p h = let all : 2 * all_terms set ≡ b = omega (arith, p.upto) in ap (λ n. every n (passes set.l abq)) all ∙ p.so_far

  pub passing-end : {count b : ℕ} → count ≡ 2 * all_terms set → Passing set.l abq count b → count ≤ b
      → 0 ≡ first (unless NotInvertible (all_invertible set abq) ∷ [])
  passing-end e p h = sym (answer-21 (all_invertible set abq) ∙ ap (λ b. pick b 0 21) (passing-all e p h))

  -- a block that is refused decides
  pub passing-stops : (b : ℕ) {A : Type 0} {a : Result A Refusal} {r : Refusal} → b < 2 * all_terms set → number_of a ≡ pick (passes set.l abq b) 0 21 → a ≡ Err r
      → code r ≡ first (unless NotInvertible (all_invertible set abq) ∷ [])
  unfolding all_invertible
  passing-stops b {r = r} h is refused = by (passes set.l abq b) refl
    where
      number : code r ≡ pick (passes set.l abq b) 0 21
      number = sym (ap number_of refused) ∙ is

      by : (t : Bool) → passes set.l abq b ≡ t → code r ≡ first (unless NotInvertible (all_invertible set abq) ∷ [])
      by true t = absurd (code-some r (number ∙ ap (λ b. pick b 0 21) t))
      by false t =
          number ∙ ap (λ b. pick b 0 21) (t ∙ sym (every-fails (2 * all_terms set) (passes set.l abq) b h t)) ∙ sym (answer-21 (all_invertible set abq))
