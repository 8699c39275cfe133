-- The two steps of a check: the refusal by length stands; where there is none, the rules about contents decide.
-- Rests on ground's First.
use Rattle.std.specs.Prelude.{◌≡◌, List, ◌++◌, ℕ, T}
use Rattle.std.proofs.Common.{sym, ◌∙◌}
use Rattle.ground.specs.Answers.{Rule, first, first-stands}
use Rattle.ground.specs.First.{above, first_then}

-- a refusal by length
pub length-refused : (rs rs' : List Rule) {n : ℕ} → n ≡ first rs → (n ≡ 0 → ⊥) → n ≡ first (rs ++ rs')
length-refused rs rs' {n} is some = is ∙ sym (first-stands rs rs' (λ z. some (is ∙ z)))

-- none by length: what the contents give
pub contents-decide : (rs rs' : List Rule) → T (above 0 rs) → {n m : ℕ} → n ≡ first rs → n ≡ 0 → m ≡ first rs' → m ≡ first (rs ++ rs')
contents-decide rs rs' up is zero r-is = r-is ∙ sym (first_then rs rs' up (sym is ∙ zero))
