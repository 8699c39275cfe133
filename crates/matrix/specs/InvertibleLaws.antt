-- Algorithm 2's laws: a shift by 0 changes nothing, an invertible matrix stays, only entries inside l count, what it makes is invertible; and the search, shift by shift.
-- Rests on Invertible, Determinant and Same.
use Rattle.std.specs.Prelude.{◌≡◌, refl, Bool, true, false, not, ℕ, zero, suc, ◌+◌, ◌<◌, eqb, ltb}
use Rattle.std.proofs.Common.{ap, ap₂, ◌∙◌, arith, ne_eqb, lt-ltb, ltb-true}
use Rattle.ground.specs.Pick.{pick}
use Rattle.field.specs.Laws.{add-zero, zero-mul}
use Rattle.matrix.specs.Matrix.{Matrix, add_m, scale_m}
use Rattle.matrix.specs.MatrixRing.{entries}
use Rattle.matrix.specs.Same.{Same, same_refl, same_add}
use Rattle.matrix.specs.RingElements.{S}
use Rattle.matrix.specs.Determinant.{det, det-same}
use Rattle.matrix.specs.Invertible.{invertible, shift, first_from, shift_of, can_be_invertible, algorithm2}

-- ---- shifts

shift_zero : (l : ℕ) (M : Matrix) → shift l M 0 ≡ M
unfolding shift add_m scale_m
shift_zero l M = entries (λ r c. rw (zero-mul (S l r c)) (add-zero (M r c)))

shift_same : {l : ℕ} {M N : Matrix} (a : ℕ) → Same l M N → Same l (shift l M a) (shift l N a)
unfolding shift
shift_same a s = same_add s same_refl

-- ---- invertible matrices

invertible-same : {l : ℕ} {M N : Matrix} → Same l M N → invertible l M ≡ invertible l N
unfolding invertible
invertible-same {l} s = ap (λ d. not (eqb d 0)) (det-same l s)

pub invertible-no : (l : ℕ) (M : Matrix) → det l M ≡ 0 → invertible l M ≡ false
unfolding invertible
invertible-no l M e = rw e

pub invertible-yes : (l : ℕ) (M : Matrix) → (det l M ≡ 0 → ⊥) → invertible l M ≡ true
unfolding invertible
invertible-yes l M n = rw (ne_eqb (det l M) 0 n)

-- ---- the search

pub first_found : (l : ℕ) (M : Matrix) (n a : ℕ) → invertible l (shift l M a) ≡ true → first_from l M (suc n) a ≡ a
unfolding first_from
first_found l M n a t = rw t

pub first_next : (l : ℕ) (M : Matrix) (n a : ℕ) → invertible l (shift l M a) ≡ false → first_from l M (suc n) a ≡ first_from l M n (a + 1)
unfolding first_from
first_next l M n a t = rw t

first-same : {l : ℕ} {M N : Matrix} (n a : ℕ) → Same l M N → first_from l M n a ≡ first_from l N n a
unfolding first_from
first-same zero a s = refl
first-same (suc n) a s = ap₂ (λ b x. pick b a x) (invertible-same (shift_same a s)) (first-same n (a + 1) s)

first-serves : (l : ℕ) (M : Matrix) (n a : ℕ) → first_from l M n a < 16 → invertible l (shift l M (first_from l M n a)) ≡ true
unfolding first_from
first-serves l M zero a h = absurd (omega arith)
first-serves l M (suc n) a h = by (invertible l (shift l M a)) refl (first-serves l M n (a + 1))
  where
    by : (b : Bool) → invertible l (shift l M a) ≡ b
        → (first_from l M n (a + 1) < 16 → invertible l (shift l M (first_from l M n (a + 1))) ≡ true)
        → invertible l (shift l M (pick (invertible l (shift l M a)) a (first_from l M n (a + 1)))) ≡ true
    by true t later = ap (λ b. invertible l (shift l M (pick b a (first_from l M n (a + 1))))) t ∙ t
    by false t later = ap (λ b. invertible l (shift l M (pick b a (first_from l M n (a + 1))))) t ∙ later (rw t at h)

-- ---- Algorithm 2

pub shift-stays : (l : ℕ) (M : Matrix) → invertible l M ≡ true → shift_of l M ≡ 0
unfolding shift_of
shift-stays l M t = rw t

pub algorithm2-stays : (l : ℕ) (M : Matrix) → invertible l M ≡ true → algorithm2 l M ≡ M
unfolding algorithm2
algorithm2-stays l M t = rw (shift-stays l M t) (shift_zero l M)

shift_of-same : {l : ℕ} {M N : Matrix} → Same l M N → shift_of l M ≡ shift_of l N
unfolding shift_of
shift_of-same s = ap₂ (λ b x. pick b 0 x) (invertible-same s) (first-same 15 1 s)

pub can_be_invertible-same : {l : ℕ} {M N : Matrix} → Same l M N → can_be_invertible l M ≡ can_be_invertible l N
unfolding can_be_invertible
can_be_invertible-same s = ap (λ a. ltb a 16) (shift_of-same s)

pub algorithm2-same : {l : ℕ} {M N : Matrix} → Same l M N → Same l (algorithm2 l M) (algorithm2 l N)
unfolding algorithm2
algorithm2-same {l} {M} {N} s = rw (shift_of-same s) (shift_same (shift_of l N) s)

-- what Algorithm 2 makes is invertible, where 21 does not apply
pub algorithm2-invertible : (l : ℕ) (M : Matrix) → can_be_invertible l M ≡ true → invertible l (algorithm2 l M) ≡ true
unfolding algorithm2 can_be_invertible shift_of
algorithm2-invertible l M can = by (invertible l M) refl
  where
    by : (b : Bool) → invertible l M ≡ b → invertible l (shift l M (pick (invertible l M) 0 (first_from l M 15 1))) ≡ true
    by true t = rw (t, shift_zero l M) t
    by false t = rw t (first-serves l M 15 1 (ltb-true _ _ (rw t at can)))

-- where the shift is found, it serves
pub found-can : (l : ℕ) (M : Matrix) (a : ℕ) → shift_of l M ≡ a → a < 16 → can_be_invertible l M ≡ true
unfolding can_be_invertible
found-can l M a e h = rw e (lt-ltb a 16 h)

pub none-can : (l : ℕ) (M : Matrix) → shift_of l M ≡ 16 → can_be_invertible l M ≡ false
unfolding can_be_invertible
none-can l M e = rw e

pub found-is : (l : ℕ) (M : Matrix) (a : ℕ) → shift_of l M ≡ a → algorithm2 l M ≡ shift l M a
unfolding algorithm2
found-is l M a e = ap (shift l M) e
