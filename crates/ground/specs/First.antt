-- "The first in the operation's order that applies": what `first` gives, said of any list of refusals. No numbers that rise are asked for: from page 02 on the
-- order of an operation's refusals is not that of their numbers. Rests on Answers and Tests.
use Rattle.std.specs.Prelude.{◌≡◌, Bool, ◌↔◌, ◌⊎◌, ℕ, ◌<◌, T, ltb}
use Rattle.std.proofs.Math.Path.{refl, subst}
use Rattle.std.proofs.Common.{sym, ◌∙◌, inl, inr, arith, ltb→lt}
use Rattle.std.proofs.Math.Bool.{true, false}
use mathlib.Core.List.Memᴰ
use mathlib.Core.List.{List, [], ◌∷◌, ◌++◌, Memᴰ}
use Rattle.std.proofs.Math.Decide.{ℕ_discrete}
use Rattle.ground.specs.Pick.{pick, both}
use Rattle.ground.specs.Tests.{both_first, both_rest}
use Rattle.ground.specs.declared.Refusal.{Refusal}
use Rattle.ground.specs.AnswerLaws.{code-some}
use Rattle.ground.specs.Answers.{Rule, unless, number, first, Met, met-none, met-more, first-met, first-append, first-stands}

-- refusal n is the first of the list that applies: the rules before it are met, and this one is not
pub data First (n : ℕ) : List Rule → Type 0 where
  first-here : {r : Rule} {rs : List Rule} → (number r) ≡ n → r.met ≡ false → First n (r ∷ rs)
  first-later : {r : Rule} {rs : List Rule} → r.met ≡ true → First n rs → First n (r ∷ rs)

-- a refusal is given exactly where it is the first that applies

first_to : (rs : List Rule) (n : ℕ) → 0 < n → first rs ≡ n → First n rs
unfolding first
first_to [] n h e = absurd (omega arith)
first_to (r ∷ rs) n h e = by r.met refl (first_to rs n h)
  where
    by : (b : Bool) → r.met ≡ b → (first rs ≡ n → First n rs) → First n (r ∷ rs)
    by true t later = first-later t (later (rw t at e))
    by false t later = first-here (rw t at e) t

first-from : (n : ℕ) {rs : List Rule} → First n rs → first rs ≡ n
unfolding first
first-from n (first-here {r = r} {rs = rs} e t) = rw t e
first-from n (first-later {r = r} {rs = rs} t f) = rw t (first-from n f)

pub first-exactly : (rs : List Rule) (n : ℕ) → 0 < n → (first rs ≡ n) ↔ First n rs
first-exactly rs n h = (first_to rs n h, first-from n)

-- ---- where no rule has a number up to a

-- the numbers of the rules, in order
abbrev pub numbers : List Rule → List ℕ
numbers [] = []
numbers (r ∷ rs) = (number r) ∷ numbers rs

-- every number is above a: a test, so that it computes on a list that is written out
abbrev pub above : ℕ → List Rule → Bool
above a [] = true
above a (r ∷ rs) = both (ltb a (number r)) (above a rs)

module _ (a : ℕ) where
  head-above : (r : Rule) (rs : List Rule) → T (above a (r ∷ rs)) → a < (number r)
  head-above r rs t = ltb→lt a (number r) (both_first (ltb a (number r)) (above a rs) t)

  tail-above : (r : Rule) (rs : List Rule) → T (above a (r ∷ rs)) → T (above a rs)
  tail-above r rs t = both_rest (ltb a (number r)) (above a rs) t

  -- no refusal is given: every rule is met
  pub met-of-first : (rs : List Rule) → T (above a rs) → first rs ≡ 0 → Met rs
  unfolding first
  met-of-first [] t e = met-none
  met-of-first (r ∷ rs) t e = by r.met refl (λ z. met-of-first rs (tail-above r rs t) z)
    where
      by : (b : Bool) → r.met ≡ b → (first rs ≡ 0 → Met rs) → Met (r ∷ rs)
      by true q h = met-more q (h (rw q at e))
      by false q h = let z : (number r) ≡ 0 = rw q at e in let p = head-above r rs t in absurd (omega arith)

  -- and the other way round
  pub none-exactly : (rs : List Rule) → T (above a rs) → (first rs ≡ 0) ↔ Met rs
  none-exactly rs t = (met-of-first rs t, first-met)

  -- a refusal that is given is above a
  pub first_above : (rs : List Rule) → T (above a rs) → (first rs ≡ 0 → ⊥) → a < first rs
  unfolding first
  first_above [] t z = absurd (z refl)
  first_above (r ∷ rs) t z = by r.met refl (first_above rs (tail-above r rs t))
    where
      by : (b : Bool) → r.met ≡ b → ((first rs ≡ 0 → ⊥) → a < first rs) → a < first (r ∷ rs)
      by true q later = let e : first (r ∷ rs) ≡ first rs = rw q in subst (λ m. a < m) (sym e) (later (λ w. z (e ∙ w)))
      by false q later = let e : first (r ∷ rs) ≡ (number r) = rw q in subst (λ m. a < m) (sym e) (head-above r rs t)

-- the answer is 0 or the number of a rule
pub first-listed : (rs : List Rule) → Memᴰ (first rs) (0 ∷ numbers rs)
unfolding first
first-listed [] = Memᴰ.head refl
first-listed (r ∷ rs) = by r.met (first-listed rs)
  where
    further : (first rs ≡ 0) ⊎ Memᴰ (first rs) (numbers rs) → Memᴰ (first rs) (0 ∷ (number r ∷ numbers rs))
    further (inl e) = Memᴰ.head e
    further (inr m) = Memᴰ.tail (Memᴰ.tail m)

    by : (b : Bool) → Memᴰ (first rs) (0 ∷ numbers rs) → Memᴰ (pick b (first rs) (number r)) (0 ∷ (number r ∷ numbers rs))
    by true m = further (Memᴰ.cases_cons m)
    by false m = Memᴰ.tail (Memᴰ.head refl)

-- rules behind others are looked at where no refusal was given of those
pub first_then : (rs rs' : List Rule) → T (above 0 rs) → first rs ≡ 0 → first (rs ++ rs') ≡ first rs'
first_then rs rs' t e = first-append rs' (met-of-first 0 rs t e)

-- and where none is given of all of them, none was given of either part
pub first-parts : (rs rs' : List Rule) → T (above 0 rs) → first (rs ++ rs') ≡ 0 → (first rs ≡ 0) × (first rs' ≡ 0)
first-parts rs rs' t e =
    elim (ℕ_discrete (first rs) 0) [
      | yes z ↦ (z, sym (first_then rs rs' t z) ∙ e)
      | no z ↦ absurd (z (sym (first-stands rs rs' z) ∙ e))
    ]

-- no refusal: the first rule is met, and so is the rest
pub first_passes : (r : Refusal) (met : Bool) (rs : List Rule) → first (unless r met ∷ rs) ≡ 0 → (met ≡ true) × (first rs ≡ 0)
unfolding first
first_passes r true rs e = (refl, e)
first_passes r false rs e = absurd (code-some r e)
