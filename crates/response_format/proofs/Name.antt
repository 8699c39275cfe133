-- The name of a line ends at its first " = ". Rule 33's test, that the line begins with the label, says that the name is the field's.
-- Rests on Rules and Labels.
use Rattle.std.specs.Prelude.{◌≡◌, refl, Bool, true, false, ◌↔◌, List, [], ◌∷◌, ◌++◌, ℕ, ◌-◌, ◌<◌, T, eqb, length, take, drop}
use Rattle.std.proofs.Common.{sym, ap, ap₂, ◌∙◌, append_assoc, arith, eqb→eq}
use Rattle.ground.specs.Pick.{pick, both}
use Rattle.ground.specs.Tests.{every, below, both_first, both_rest}
use Rattle.response_format.specs.Fields.{label}
use Rattle.response_format.specs.Rules.{begins, separated}
use Rattle.response_format.proofs.Labels.{begins-all, begins-split}

abbrev separator : List ℕ
separator = 32 ∷ 61 ∷ 32 ∷ []

-- what stands before the first " = "
unfoldable pub name_of : List ℕ → List ℕ
name_of [] = []
name_of (b ∷ l) = pick (begins separator (b ∷ l)) [] (b ∷ name_of l)

-- the name of a field: its label without " = "
abbrev pub name : ℕ → List ℕ
name k = take (length (label k) - 3) (label k)

-- a separated line is its name, " = ", and a value
split : (m : List ℕ) → separated m ≡ true → (v : List ℕ) × (m ≡ name_of m ++ (separator ++ v))
unfolding separated name_of
split [] t = let z : ◌≡◌ {A = ℕ} 0 1 = cc in absurd (omega arith)
split (b ∷ l) t = by (begins separator (b ∷ l)) refl (split l)
  where
    by : (s : Bool) → begins separator (b ∷ l) ≡ s → (separated l ≡ true → (v : List ℕ) × (l ≡ name_of l ++ (separator ++ v)))
        → (v : List ℕ) × (b ∷ l ≡ pick (begins separator (b ∷ l)) [] (b ∷ name_of l) ++ (separator ++ v))
    by true e h = (drop 3 (b ∷ l), rw e (begins-split separator (b ∷ l) e))
    by false e h = let w = h (rw e at t) in (w.0, rw e (ap (λ x. b ∷ x) w.1))

-- no space stands in it
abbrev spaceless : List ℕ → Bool
spaceless [] = true
spaceless (b ∷ l) = both (pick (eqb b 32) false true) (spaceless l)

name-ends : (n v : List ℕ) → T (spaceless n) → name_of (n ++ (separator ++ v)) ≡ n
unfolding name_of begins
name-ends [] v t = refl
name-ends (b ∷ n) v t = by (eqb b 32) refl (name-ends n v)
  where
    by : (s : Bool) → eqb b 32 ≡ s → (T (spaceless n) → name_of (n ++ (separator ++ v)) ≡ n) → name_of (b ∷ (n ++ (separator ++ v))) ≡ b ∷ n
    by true e h = absurd (rw e at (both_first (pick (eqb b 32) false true) (spaceless n) t))
    by false e h = rw e (ap (λ x. b ∷ x) (h (both_rest (pick (eqb b 32) false true) (spaceless n) t)))

name-test : T (every 8 (λ k. spaceless (name k)))
unfolding label
name-test = tt

same : List ℕ → List ℕ → Bool
same [] [] = true
same [] (b ∷ m) = false
same (a ∷ l) [] = false
same (a ∷ l) (b ∷ m) = both (eqb a b) (same l m)

same-is : (l m : List ℕ) → T (same l m) → l ≡ m
unfolding same
same-is [] [] t = refl
same-is [] (b ∷ m) t = absurd t
same-is (a ∷ l) [] t = absurd t
same-is (a ∷ l) (b ∷ m) t = ap₂ (λ x y. x ∷ y) (eqb→eq a b (both_first (eqb a b) (same l m) t)) (same-is l m (both_rest (eqb a b) (same l m) t))

label-test : T (every 8 (λ k. same (label k) (name k ++ separator)))
unfolding label same
label-test = tt

label-name : (k : ℕ) → k < 8 → label k ≡ name k ++ separator
label-name k due = same-is _ _ (below 8 (λ k. same (label k) (name k ++ separator)) label-test k due)

-- the name is the field's exactly where the line begins with the field's label
pub named : (k : ℕ) (m : List ℕ) → k < 8 → separated m ≡ true → (begins (label k) m ≡ true) ↔ (name_of m ≡ name k)
named k m due s = (forth, back)
  where
    forth : begins (label k) m ≡ true → name_of m ≡ name k
    forth t =
        let is : m ≡ name k ++ (separator ++ drop (length (label k)) m) =
        begins-split (label k) m t ∙ ap (λ p. p ++ drop (length (label k)) m) (label-name k due) ∙ append_assoc (name k) separator (drop (length (label k)) m) in
        ap name_of is ∙ name-ends (name k) (drop (length (label k)) m) (below 8 (λ k. spaceless (name k)) name-test k due)

    back : name_of m ≡ name k → begins (label k) m ≡ true
    back e =
        let w = split m s in
        let is : m ≡ label k ++ w.0 = w.1 ∙ ap (λ n. n ++ (separator ++ w.0)) e ∙ sym (append_assoc (name k) separator w.0) ∙ ap (λ p. p ++ w.0) (sym (label-name k due)) in
        ap (begins (label k)) is ∙ begins-all (label k) w.0
