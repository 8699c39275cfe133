-- The turn of a block, and its faults in order: 41 check, 42 form, 43 out of turn, the lowest deciding.
-- Rests on Block and on ground's refusals.
use Rattle.std.specs.Prelude.{◌≡◌, ℕ, ◌+◌, ◌*◌, ◌<◌, ◌≤◌, Bool, true, false, ◌⊎◌, List, [], ◌∷◌, ◌==◌, nat_lt, refl}
use Rattle.std.proofs.Common.{inl, inr, arith, eqb-true, eq-eqb, ltb-true, lt-ltb}
use Rattle.std.proofs.Math.Logic.{⊎_elim}
use Rattle.std.proofs.Math.Decide.{ℕ_discrete}
use Rattle.ground.specs.Pick.{both, both_left, both_right, both_true}
use Rattle.ground.specs.Answers.{Rule, unless, first, met-none, met-more, first-met}
use Rattle.ground.specs.declared.Refusal.TheVariants.{BlockCheck, BlockForm, BlockOutOfTurn}
use Rattle.ground.specs.First.{first_passes}
use Rattle.blocks.specs.declared.Head.{Head}
use Rattle.blocks.specs.Block.{checked, formed, head_of}

abbrev pub either : Bool → Bool → Bool
either true b = true
either false b = b

-- the next part of the same field
abbrev pub next_part : Head → Head → Bool
next_part before h = both (both (h.exercise == before.exercise) (h.kind == before.kind)) (h.part == before.part + 1)

-- of a higher kind in its exercise, or of a higher exercise
abbrev pub higher : Head → Head → Bool
higher before h = either (both (h.exercise == before.exercise) (nat_lt before.kind h.kind)) (nat_lt before.exercise h.exercise)

unfoldable pub in_turn : Head → Head → Bool
in_turn before h = either (next_part before h) (both (h.part == 0) (higher before h))

-- what stands before the first block: kind 0, so that every block of part 0 is in turn after it, and no other (`first-in-turn`)
abbrev pub start : Head
start = record { exercise = 0; kind = 0; part = 0 }

-- the faults of the block at a place, after a block with the head `before`
abbrev pub fault_rules : ℕ → Head → List ℕ → List Rule
fault_rules place before s = unless BlockCheck (checked place s) ∷ unless BlockForm (formed s) ∷ unless BlockOutOfTurn (in_turn before (head_of s)) ∷ []

unfoldable pub fault_of : ℕ → Head → List ℕ → ℕ
fault_of place before s = first (fault_rules place before s)

-- ---- turns as a relation

-- exercise and kind as one number: the order of fields
abbrev pub rank : Head → ℕ
rank h = 8 * h.exercise + h.kind

pub data InTurn : Head → Head → Type 0 where
  next : {before h : Head} → h.exercise ≡ before.exercise → h.kind ≡ before.kind → h.part ≡ before.part + 1 → InTurn before h
  begins : {before h : Head} → h.part ≡ 0 → rank before < rank h → InTurn before h

pub either-cases : (a b : Bool) → either a b ≡ true → (a ≡ true) ⊎ (b ≡ true)
either-cases true b e = inl refl
either-cases false b e = inr e

pub either_left : (a b : Bool) → a ≡ true → either a b ≡ true
either_left a b e = rw e

pub either-right : (a b : Bool) → b ≡ true → either a b ≡ true
either-right true b e = refl
either-right false b e = e

module _ (a h : Head) (la : a.kind ≤ 7) (lh : h.kind ≤ 7) where
  higher-says : higher a h ≡ true → rank a < rank h
  higher-says e =
      ⊎_elim
      (λ w.
      omega (
        arith,
        eqb-true h.exercise a.exercise (both_left (h.exercise == a.exercise) (nat_lt a.kind h.kind) w),
        ltb-true a.kind h.kind (both_right (h.exercise == a.exercise) (nat_lt a.kind h.kind) w),
      ))
      (λ w. omega (arith, ltb-true a.exercise h.exercise w))
      (either-cases (both (h.exercise == a.exercise) (nat_lt a.kind h.kind)) (nat_lt a.exercise h.exercise) e)

  says-higher : rank a < rank h → higher a h ≡ true
  says-higher l =
      elim (ℕ_discrete h.exercise a.exercise) [
        | yes e ↦ either_left (both (h.exercise == a.exercise) (nat_lt a.kind h.kind)) _ (both_true (eq-eqb _ _ e) (lt-ltb a.kind h.kind (omega arith)))
        | no e ↦ either-right (both (h.exercise == a.exercise) (nat_lt a.kind h.kind)) (nat_lt a.exercise h.exercise) (lt-ltb a.exercise h.exercise (omega arith))
      ]

  pub in-turn-says : in_turn a h ≡ true → InTurn a h
  unfolding in_turn
  in-turn-says e =
      ⊎_elim
      (λ w.
      let same = both_left (both (h.exercise == a.exercise) (h.kind == a.kind)) (h.part == a.part + 1) w in
      next (eqb-true _ _ (both_left (h.exercise == a.exercise) (h.kind == a.kind) same)) (eqb-true _ _ (both_right (h.exercise == a.exercise) (h.kind == a.kind) same))
      (eqb-true _ _ (both_right (both (h.exercise == a.exercise) (h.kind == a.kind)) (h.part == a.part + 1) w)))
      (λ w. begins (eqb-true _ _ (both_left (h.part == 0) (higher a h) w)) (higher-says (both_right (h.part == 0) (higher a h) w)))
      (either-cases (next_part a h) (both (h.part == 0) (higher a h)) e)

  pub says-in-turn : InTurn a h → in_turn a h ≡ true
  unfolding in_turn
  says-in-turn (next x k p) = either_left (next_part a h) _ (both_true (both_true (eq-eqb _ _ x) (eq-eqb _ _ k)) (eq-eqb _ _ p))
  says-in-turn (begins z l) = either-right (next_part a h) _ (both_true (eq-eqb _ _ z) (says-higher l))

-- a first block is in turn exactly where it has part 0
pub first-in-turn : (h : Head) → 1 ≤ h.kind → h.kind ≤ 7 → InTurn start h → h.part ≡ 0
first-in-turn h l m (next x k p) = absurd (omega arith)
first-in-turn h l m (begins z r) = z

pub part-0-first : (h : Head) → 1 ≤ h.kind → h.part ≡ 0 → InTurn start h
part-0-first h l z = begins {before = start} {h = h} z (omega arith)

-- ---- no fault

pub no-fault : (place : ℕ) (before : Head) (s : List ℕ) → fault_of place before s ≡ 0
    → (checked place s ≡ true) × ((formed s ≡ true) × (in_turn before (head_of s) ≡ true))
unfolding fault_of
no-fault place before s e =
    let a = first_passes BlockCheck (checked place s) (unless BlockForm (formed s) ∷ unless BlockOutOfTurn (in_turn before (head_of s)) ∷ []) e in
    let b = first_passes BlockForm (formed s) (unless BlockOutOfTurn (in_turn before (head_of s)) ∷ []) a.1 in
    let c = first_passes BlockOutOfTurn (in_turn before (head_of s)) [] b.1 in
    (a.0, (b.0, c.0))

pub fault-none : (place : ℕ) (before : Head) (s : List ℕ) → checked place s ≡ true → formed s ≡ true → in_turn before (head_of s) ≡ true → fault_of place before s ≡ 0
unfolding fault_of
fault-none place before s c f t = first-met (met-more c (met-more f (met-more t met-none)))

pub fault-41 : (place : ℕ) (before : Head) (s : List ℕ) → checked place s ≡ false → fault_of place before s ≡ 41
unfolding fault_of first
fault-41 place before s c = rw c
