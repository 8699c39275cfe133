-- The first refusal, rule by rule: a rule's own number where it is not met, else what the rules after it find.
-- Rests on Answers of the crate ground.
use Rattle.std.specs.Prelude.{◌≡◌, refl, Bool, true, List, [], ◌∷◌, ℕ, eqb}
use Rattle.std.proofs.Common.{sym, ap, ◌∙◌}
use Rattle.ground.specs.Pick.{pick}
use Rattle.ground.specs.Answers.{Rule, code, unless, first}
use Rattle.ground.specs.declared.Refusal.{Refusal}

-- r is the first refusal of the rules
pub record Finds (rules : List Rule) (r : ℕ) : Type 0 where
  pub is : r ≡ first rules

-- with no rule there is no refusal
pub no-rule : Finds [] 0
unfolding first
no-rule = record { is = refl }

pub next-rule : {b : Bool} {n : Refusal} {r rest : ℕ} {rules : List Rule} → r ≡ pick b rest (code n) → Finds rules rest → Finds (unless n b ∷ rules) r
unfolding first
next-rule {b} {n} r-is f = record { is = r-is ∙ ap (λ x. pick b x (code n)) f.is }

-- a rule that is met leaves what the others say
pub met-rule : {b : Bool} {n : Refusal} {r : ℕ} {rules : List Rule} → b ≡ true → Finds rules r → Finds (unless n b ∷ rules) r
unfolding first
met-rule {b} {n} {rules = rules} met f = record { is = f.is ∙ sym (ap (λ t. pick t (first rules) (code n)) met) }

-- the length asked for is the exact one, since the set is allowed
pub length-rule : (lent exact : ℕ) {allowed : Bool} {n : Refusal} {asked r rest : ℕ} {rules : List Rule} → allowed ≡ true → asked ≡ pick allowed exact 0
    → r ≡ pick (eqb lent asked) rest (code n) → Finds rules rest → Finds (unless n (eqb lent exact) ∷ rules) r
length-rule lent exact {n = n} {rest = rest} ok Asked-is r-is f =
    next-rule (r-is ∙ ap (λ x. pick (eqb lent x) rest (code n)) (Asked-is ∙ ap (λ t. pick t exact 0) ok)) f
