-- The search of Algorithm 2, as the code does it: which shift is being tried, and that no earlier one served.
-- Rests on InvertibleLaws, Block and Trial.
use Rattle.std.specs.Prelude.{◌≡◌, true, false, List, ℕ, suc, ◌+◌, ◌-◌, ◌≤◌}
use Rattle.std.proofs.Common.{sym, ap, subst, ◌∙◌, arith}
use Rattle.matrix.specs.Matrix.{Matrix}
use Rattle.matrix.specs.Determinant.{det, det-same}
use Rattle.matrix.specs.Invertible.{invertible, shift, first_from, shift_of, can_be_invertible, algorithm2}
use Rattle.matrix.specs.InvertibleLaws.{invertible-no, invertible-yes, first_found, first_next, shift-stays, algorithm2-stays, found-can, none-can, found-is}
use Rattle.matrix.specs.Block.{view, block, holds, stride}
use Rattle.matrix.specs.declared.invertible.Trial.{Trial}
use Rattle.matrix.specs.Trial.{NextTrial}

-- `tried` holds M + a·S, and Algorithm 2's shift is the first from a on that serves
pub record Searching (l : ℕ) (M : Matrix) (a : ℕ) (tried : List ℕ) : Type 0 where
  pub low : 1 ≤ a
  pub high : a ≤ 15
  pub shifted : tried ≡ block l (shift l M a)
  pub first : shift_of l M ≡ first_from l M (16 - a) a

-- an invertible matrix stays
pub searching-stays : (l : ℕ) (M : Matrix) {b : List ℕ} → (det l M ≡ 0 → ⊥) → b ≡ block l M → (can_be_invertible l M ≡ true) × (b ≡ block l (algorithm2 l M))
searching-stays l M n is =
    let t : invertible l M ≡ true = invertible-yes l M n in
    (found-can l M 0 (shift-stays l M t) (omega arith), is ∙ ap (block l) (sym (algorithm2-stays l M t)))

pub searching-start : {l : ℕ} {M : Matrix} {tried : List ℕ} → det l M ≡ 0 → tried ≡ block l (shift l M 1) → Searching l M 1 tried
unfolding shift_of
searching-start {l} {M} z is = record { low = omega arith; high = omega arith; shifted = is; first = rw (invertible-no l M z) }

-- the determinant of what is tried is that of the shift
tried-det : {l : ℕ} {M : Matrix} {a : ℕ} {tried : List ℕ} → l ≤ stride → Searching l M a tried → det l (view tried) ≡ det l (shift l M a)
tried-det {l} h s = det-same l (holds h s.shifted)

left : {a : ℕ} → a ≤ 15 → 16 - a ≡ suc (15 - a)
left h = omega arith

searching-next : {l : ℕ} {M : Matrix} {a : ℕ} {tried next : List ℕ} → l ≤ stride → Searching l M a tried → det l (view tried) ≡ 0 → (a ≡ 15 → ⊥)
    → next ≡ block l (shift l M (a + 1)) → Searching l M (a + 1) next
searching-next {l} {M} {a} h s z n is =
    let fewer : 15 - a ≡ 16 - (a + 1) = omega arith in
    record {
      low = omega arith;
      high = omega (arith, s.high);
      shifted = is;
      first = s.first ∙ ap (λ k. first_from l M k a) (left s.high) ∙ first_next l M (15 - a) a (invertible-no l _ (sym (tried-det h s) ∙ z))
          ∙ ap (λ k. first_from l M k (a + 1)) fewer;
    }

-- the next try goes on with the search, since its original is the one that was given
pub next-searching : {l : ℕ} {m : List ℕ} {trial next : Trial} → l ≤ stride → (trial.original ≡ m) × Searching l (view m) trial.a trial.tried
    → det l (view trial.tried) ≡ 0 → (trial.a ≡ 15 → ⊥) → NextTrial l trial next → Searching l (view m) next.a next.tried
next-searching {l} {m} {trial} {next} h s z n is =
    subst (λ a. Searching l (view m) a next.tried) (sym is.a)
    (searching-next h s.1 z n (is.tried ∙ ap (λ b. block l (shift l (view b) (trial.a + 1))) s.0))

-- the shift that is found is Algorithm 2's
pub searching-found : {l : ℕ} {M : Matrix} {a : ℕ} {tried : List ℕ} → l ≤ stride → Searching l M a tried → (det l (view tried) ≡ 0 → ⊥)
    → (can_be_invertible l M ≡ true) × (tried ≡ block l (algorithm2 l M))
searching-found {l} {M} {a} h s n =
    let is : shift_of l M ≡ a = s.first ∙ ap (λ k. first_from l M k a) (left s.high) ∙ first_found l M (15 - a) a (invertible-yes l _ (λ e. n (tried-det h s ∙ e))) in
    (found-can l M a is (omega (arith, s.high)), s.shifted ∙ ap (block l) (sym (found-is l M a is)))

-- and where the fifteenth does not serve, none does
pub searching-none : {l : ℕ} {M : Matrix} {a : ℕ} {tried : List ℕ} → l ≤ stride → Searching l M a tried → det l (view tried) ≡ 0 → a ≡ 15 → can_be_invertible l M ≡ false
unfolding first_from
searching-none {l} {M} {a} h s z e =
    let none : 15 - a ≡ 0 = omega arith in
    none-can l M
    (s.first ∙ ap (λ k. first_from l M k a) (left s.high) ∙ first_next l M (15 - a) a (invertible-no l _ (sym (tried-det h s) ∙ z)) ∙ ap (λ k. first_from l M k (a + 1)) none)
