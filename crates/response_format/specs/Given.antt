-- A list of rules beside a value: the value where every rule is met, else the refusal of the first that is not. `first` is its number.
-- Rests on Answers and AnswerLaws of the crate ground.
use Rattle.std.specs.Prelude.{◌≡◌, refl, Bool, true, false, List, [], ◌∷◌, Result, Ok, Err}
use Rattle.std.proofs.Common.{sym, ◌∙◌}
use Rattle.ground.specs.Pick.{pick}
use Rattle.ground.specs.Answers.{code, Answer, Rule, first, number_of}
use Rattle.ground.specs.AnswerLaws.{code-some, same-refusal}
use Rattle.ground.specs.declared.Refusal.{Refusal}

unfoldable pub given : {A : Type 0} → List Rule → A → Result A Refusal
given [] x = Ok x
given (r ∷ rs) x = pick r.met (given rs x) (Err r.refusal)

pub given-number : {A : Type 0} (rs : List Rule) (x : A) → number_of (given rs x) ≡ first rs
unfolding given first
given-number [] x = refl
given-number (r ∷ rs) x = by r.met (given-number rs x)
  where
    by : (b : Bool) → number_of (given rs x) ≡ first rs → number_of (pick b (given rs x) (Err r.refusal)) ≡ pick b (first rs) (code r.refusal)
    by true h = h
    by false h = refl

-- no rule is broken: the value
pub given-met : {A : Type 0} (rs : List Rule) (x : A) → first rs ≡ 0 → given rs x ≡ Ok x
unfolding given first
given-met [] x z = refl
given-met (r ∷ rs) x z = by r.met z (given-met rs x)
  where
    by : (b : Bool) → pick b (first rs) (code r.refusal) ≡ 0 → (first rs ≡ 0 → given rs x ≡ Ok x) → pick b (given rs x) (Err r.refusal) ≡ Ok x
    by true z h = h z
    by false z h = absurd (code-some r.refusal z)

-- one is broken: its refusal, whatever stands beside
pub record Refuses (rs : List Rule) : Type 0 where
  pub refusal : Refusal
  pub number : code refusal ≡ first rs

pub refuses : (rs : List Rule) → (first rs ≡ 0 → ⊥) → Refuses rs
refuses rs n = by (given rs tt) (given-number rs tt)
  where
    by : (a : Answer) → number_of a ≡ first rs → Refuses rs
    by (Ok x) e = absurd (n (sym e))
    by (Err r) e = record { refusal = r; number = e }

pub given-refused : {A : Type 0} (rs : List Rule) (x : A) (w : Refuses rs) → given rs x ≡ Err w.refusal
given-refused rs x w =
    let e = given-number rs x ∙ sym w.number in
    same-refusal (given rs x) (Err w.refusal) e (λ z. code-some w.refusal (sym e ∙ z))
