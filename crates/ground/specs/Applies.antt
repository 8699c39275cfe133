-- "The lowest number that applies is given" (page 01, "Numbers a caller can receive"): in a list whose numbers rise, the first that applies is the lowest.
-- Rests on First.
use Rattle.std.specs.Prelude.{◌≡◌, refl, Bool, true, false, ◌↔◌, ◌⊎◌, ℕ, ◌<◌, ◌≤◌, T, ltb}
use Rattle.std.proofs.Common.{sym, ap, ◌∙◌, inl, inr, ⊎_elim, arith, ltb→lt}
use mathlib.Core.List.Memᴰ
use mathlib.Core.List.{List, [], ◌∷◌, Memᴰ}
use Rattle.ground.specs.Pick.{both}
use Rattle.ground.specs.Tests.{both_first, both_rest}
use Rattle.ground.specs.Answers.{Rule, number, first}
use Rattle.ground.specs.First.{First, first-here, first-later, first-exactly}

-- refusal n applies: there is a rule with this number whose condition is not met
pub record Applies (n : ℕ) (rules : List Rule) : Type 0 where
  pub rule : Rule
  pub listed : Memᴰ rule rules
  pub numbered : number rule ≡ n
  pub unmet : rule.met ≡ false

-- n applies, and no lower number does
pub record Lowest (n : ℕ) (rules : List Rule) : Type 0 where
  pub applies : Applies n rules
  pub least : (k : ℕ) → Applies k rules → n ≤ k

-- the numbers rise, and all are above a: a test, so that it computes on a list that is written out
abbrev pub rising : ℕ → List Rule → Bool
rising a [] = true
rising a (r ∷ rs) = both (ltb a (number r)) (rising (number r) rs)

-- ---- the first rule, and those after it

head-above : (a : ℕ) (r : Rule) (rs : List Rule) → T (rising a (r ∷ rs)) → a < (number r)
head-above a r rs t = ltb→lt a (number r) (both_first (ltb a (number r)) (rising (number r) rs) t)

rest-rising : (a : ℕ) (r : Rule) (rs : List Rule) → T (rising a (r ∷ rs)) → T (rising (number r) rs)
rest-rising a r rs t = both_rest (ltb a (number r)) (rising (number r) rs) t

applies-later : {n : ℕ} {r : Rule} {rs : List Rule} → Applies n rs → Applies n (r ∷ rs)
applies-later p = record { rule = p.rule; listed = Memᴰ.tail p.listed; numbered = p.numbered; unmet = p.unmet }

-- what applies is the first rule, or stands among those after it
applies-cases : {n : ℕ} {r : Rule} {rs : List Rule} → Applies n (r ∷ rs) → ((number r ≡ n) × (r.met ≡ false)) ⊎ Applies n rs
applies-cases {n} {r} {rs} p = by (Memᴰ.cases_cons p.listed)
  where
    by : (p.rule ≡ r) ⊎ Memᴰ p.rule rs → ((number r ≡ n) × (r.met ≡ false)) ⊎ Applies n rs
    by (inl e) = inl (ap number (sym e) ∙ p.numbered, ap (λ x. x.met) (sym e) ∙ p.unmet)
    by (inr m) = inr (record { rule = p.rule; listed = m; numbered = p.numbered; unmet = p.unmet })

-- every number of a rising list is above its bound
applies-above : (a : ℕ) (rs : List Rule) → T (rising a rs) → (n : ℕ) → Applies n rs → a < n
applies-above a [] t n p = absurd (Memᴰ.not-nil p.listed)
applies-above a (r ∷ rs) t n p =
    let above = head-above a r rs t in
    ⊎_elim (λ e. omega (arith, e.0)) (λ q. omega (arith, applies-above (number r) rs (rest-rising a r rs t) n q)) (applies-cases p)

not-both : {b : Bool} → b ≡ true → b ≡ false → ⊥
not-both p q = let z : ◌≡◌ {A = ℕ} 0 1 = cc in omega arith

-- ---- the first is the lowest

lowest-of-first : {n : ℕ} (a : ℕ) {rs : List Rule} → T (rising a rs) → First n rs → Lowest n rs
lowest-of-first {n} a t (first-here {r = r} {rs = rs} e q) = record {
  applies = record { rule = r; listed = Memᴰ.head refl; numbered = e; unmet = q };
  least = λ k p. ⊎_elim (λ s. omega (arith, s.0, e)) (λ s. omega (arith, applies-above (number r) rs (rest-rising a r rs t) k s, e)) (applies-cases p);
}
lowest-of-first {n} a t (first-later {r = r} {rs = rs} q f) =
    let w = lowest-of-first (number r) (rest-rising a r rs t) f in
    record { applies = applies-later w.applies; least = λ k p. ⊎_elim (λ s. absurd (not-both q s.1)) (w.least k) (applies-cases p) }

-- the lowest stands at the first rule that is not met
first-of-lowest : (a : ℕ) (n : ℕ) (rs : List Rule) → T (rising a rs) → Lowest n rs → First n rs
first-of-lowest a n [] t w = absurd (Memᴰ.not-nil w.applies.listed)
first-of-lowest a n (r ∷ rs) t w = by r.met refl (first-of-lowest (number r) n rs (rest-rising a r rs t))
  where
    later : r.met ≡ true → Lowest n rs
    later q = record {
      applies = ⊎_elim (λ s. absurd (not-both q s.1)) (λ s. s) (applies-cases w.applies);
      least = λ k p. w.least k (applies-later p);
    }

    here : r.met ≡ false → (number r) ≡ n
    here q =
        let first : Applies (number r) (r ∷ rs) = record { rule = r; listed = Memᴰ.head refl; numbered = refl; unmet = q } in
        let least = w.least (number r) first in
        ⊎_elim (λ s. s.0) (λ s. let above = applies-above (number r) rs (rest-rising a r rs t) n s in absurd (omega arith)) (applies-cases w.applies)

    by : (b : Bool) → r.met ≡ b → (Lowest n rs → First n rs) → First n (r ∷ rs)
    by true q rest = first-later q (rest (later q))
    by false q rest = first-here (here q) q

-- in a list whose numbers rise the first that applies is the lowest
pub lowest-exactly : (a : ℕ) (rs : List Rule) → T (rising a rs) → (n : ℕ) → First n rs ↔ Lowest n rs
lowest-exactly a rs t n = (lowest-of-first a t, first-of-lowest a n rs t)

-- so there the number that is given is the lowest that applies
pub first-lowest : (a : ℕ) (rs : List Rule) → T (rising a rs) → (n : ℕ) → 0 < n → (first rs ≡ n) ↔ Lowest n rs
first-lowest a rs t n h =
    let exact = first-exactly rs n h in
    let low = lowest-exactly a rs t n in
    ((λ e. low.0 (exact.0 e)), (λ w. exact.1 (low.1 w)))
