-- An exercise is spoiled exactly where there is a bad block that spoils it: it is that of the nearest good block before or after the bad one, or the bad one is listed 43
-- and it is its own. Rests on Salvage.
use Rattle.std.specs.Prelude.{◌≡◌, refl, Bool, true, false, ◌↔◌, ◌⊎◌, List, [], ◌∷◌, ◌++◌, ℕ, eqb}
use Rattle.std.proofs.Common.{sym, ap, subst, ◌∙◌, inl, inr, ⊎_elim, arith, eqb-true, eq-eqb, ne_eqb}
use Rattle.std.proofs.lemmas.Bool.{eqb-false}
use Rattle.ground.specs.Pick.{pick, both, both_left, both_right, both_true}
use Rattle.blocks.specs.declared.Head.{Head}
use Rattle.blocks.specs.Turn.{either, either-cases, either_left, either-right, start}
use Rattle.books.specs.Salvage.{Judged, first_good, is_of, spoiled, blocks_of, spoils}

-- the nearest good block before: the last good one, or h where there is none
abbrev pub last_good : Head → List Judged → Head
last_good h [] = h
last_good h (j ∷ js) = last_good (pick (eqb j.number 0) j.part.head h) js

-- what a bad block spoils, with the nearest good block before it and the blocks after it
abbrev pub SpoiltBy : ℕ → Judged → Head → List Judged → Type 0
SpoiltBy e bad before later = (is_of e before ≡ true) ⊎ ((is_of e (first_good later) ≡ true) ⊎ ((bad.number ≡ 43) × (bad.part.head.exercise ≡ e)))

-- a bad block among the blocks that spoils exercise e; h is the nearest good block before them
pub record Spoiler (e : ℕ) (h : Head) (js : List Judged) : Type 0 where
  pub earlier : List Judged
  pub bad : Judged
  pub later : List Judged
  pub is : js ≡ earlier ++ (bad ∷ later)
  pub is-bad : bad.number ≡ 0 → ⊥
  pub spoilt : SpoiltBy e bad (last_good h earlier) later

-- one block more before
past : {e : ℕ} {h g : Head} (j : Judged) {js : List Judged} → pick (eqb j.number 0) j.part.head h ≡ g → Spoiler e g js → Spoiler e h (j ∷ js)
past {e} {h} {g} j {js} q s = record {
  earlier = j ∷ s.earlier;
  bad = s.bad;
  later = s.later;
  is = ap (λ l. j ∷ l) s.is;
  is-bad = s.is-bad;
  spoilt = subst (λ k. SpoiltBy e s.bad (last_good k s.earlier) s.later) (sym q) s.spoilt;
}

here : {e : ℕ} {h : Head} (j : Judged) (js : List Judged) → (j.number ≡ 0 → ⊥) → SpoiltBy e j h js → Spoiler e h (j ∷ js)
here j js n w = record { earlier = []; bad = j; later = js; is = refl; is-bad = n; spoilt = w }

says : (e : ℕ) (h : Head) (js : List Judged) → spoiled e h js ≡ true → Spoiler e h js
unfolding spoiled
says e h [] t = absurd (let z : ◌≡◌ {A = ℕ} 0 1 = ap (λ b. pick b 1 0) t in omega arith)
says e h (j ∷ js) t = by (eqb j.number 0) refl (λ k x. says e k js x)
  where
    by : (g : Bool) → eqb j.number 0 ≡ g → ((k : Head) → spoiled e k js ≡ true → Spoiler e k js) → Spoiler e h (j ∷ js)
    by true g later = past j (rw g) (later j.part.head (rw g at t))
    by false g later =
        let bad = eqb-false j.number 0 g in
        ⊎_elim (λ w. here j js bad (inl w))
        (λ r.
        ⊎_elim (λ w. here j js bad (inr (inl w)))
        (λ u.
        ⊎_elim (λ w. here j js bad (inr (inr (eqb-true _ _ (both_left (eqb j.number 43) (eqb j.part.head.exercise e) w), eqb-true _ _ (both_right (eqb j.number 43) (eqb j.part.head.exercise e) w)))))
        (λ w. past j (rw g) (later h w))
        (either-cases (both (eqb j.number 43) (eqb j.part.head.exercise e)) (spoiled e h js) u))
        (either-cases (is_of e (first_good js)) (either (both (eqb j.number 43) (eqb j.part.head.exercise e)) (spoiled e h js)) r))
        (either-cases (is_of e h) (either (is_of e (first_good js)) (either (both (eqb j.number 43) (eqb j.part.head.exercise e)) (spoiled e h js))) (rw g at t))

said : (e : ℕ) (h : Head) (earlier : List Judged) (bad : Judged) (later : List Judged) → (bad.number ≡ 0 → ⊥) → SpoiltBy e bad (last_good h earlier) later
    → spoiled e h (earlier ++ (bad ∷ later)) ≡ true
unfolding spoiled
said e h [] bad later n w =
    let own = both (eqb bad.number 43) (eqb bad.part.head.exercise e) in
    rw (ne_eqb bad.number 0 n)
    (⊎_elim (λ x. either_left (is_of e h) _ x)
    (λ y.
    either-right (is_of e h) _
    (⊎_elim (λ x. either_left (is_of e (first_good later)) _ x)
    (λ x. either-right (is_of e (first_good later)) _ (either_left own _ (both_true (eq-eqb _ _ x.0) (eq-eqb _ _ x.1))))
    y))
    w)
said e h (j ∷ earlier) bad later n w = by (eqb j.number 0) refl (λ k x. said e k earlier bad later n x)
  where
    by : (g : Bool) → eqb j.number 0 ≡ g → ((k : Head) → SpoiltBy e bad (last_good k earlier) later → spoiled e k (earlier ++ (bad ∷ later)) ≡ true)
        → spoiled e h (j ∷ (earlier ++ (bad ∷ later))) ≡ true
    by true g rest = let q : pick (eqb j.number 0) j.part.head h ≡ j.part.head = rw g in rw g (rest j.part.head (subst (λ k. SpoiltBy e bad (last_good k earlier) later) q w))
    by false g rest =
        let q : pick (eqb j.number 0) j.part.head h ≡ h = rw g in
        rw g
        (either-right (is_of e h) _
        (either-right (is_of e (first_good (earlier ++ (bad ∷ later)))) _
        (either-right (both (eqb j.number 43) (eqb j.part.head.exercise e)) _ (rest h (subst (λ k. SpoiltBy e bad (last_good k earlier) later) q w)))))

-- of a book
pub spoiled-exactly : (s : List ℕ) (e : ℕ) → (spoils s e ≡ true) ↔ Spoiler e start (blocks_of s)
spoiled-exactly s e = (
  says e start (blocks_of s),
  (λ r. ap (spoiled e start) r.is ∙ said e start r.earlier r.bad r.later r.is-bad r.spoilt),
)
