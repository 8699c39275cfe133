-- The elements of F16[S] (page 01, "Ring elements"): S, its powers, and Algorithm 1.
-- S and the one are read modulo l outside l, so that they are symmetric and commute as functions; inside l nothing changes.
-- Rests on Matrix.
use Rattle.std.specs.Prelude.{ℕ, ◌-◌, ◌%◌, ◌≡◌, eqb}
use Rattle.std.proofs.Common.{eq-eqb, ne_eqb}
use Rattle.ground.specs.Pick.{pick}
use Rattle.algebra.specs.Powers.{power, polynomial}
use Rattle.matrix.specs.Matrix.{Matrix, zero_m, add_m, mul_m, scale_m}

-- the one: 1 where row and column agree
unfoldable pub one_m : ℕ → Matrix
one_m l r c = pick (eqb (r % l) (c % l)) 1 0

-- S has entry 8 - r - c at row r, column c
unfoldable pub S : ℕ → Matrix
S l r c = 8 - r % l - c % l

-- S to the k
abbrev pub power_s : ℕ → ℕ → Matrix
power_s l k = power (mul_m l) (one_m l) (S l) k

-- Algorithm 1's rule for the last coefficient: if it is 0 it becomes 16 - a0, or 15 if a0 is 0, by ordinary subtraction
abbrev pub last_coefficient : ℕ → ℕ → ℕ
last_coefficient own a0 = pick (eqb own 0) (pick (eqb a0 0) 15 (16 - a0)) own

-- Algorithm 1's coefficients: the last goes by that rule
unfoldable pub coefficient : ℕ → (ℕ → ℕ) → ℕ → ℕ
coefficient l a k = pick (eqb k (l - 1)) (last_coefficient (a k) (a 0)) (a k)

pub coefficient-last : (l : ℕ) (a : ℕ → ℕ) (k : ℕ) → k ≡ l - 1 → last_coefficient (a k) (a 0) ≡ coefficient l a k
unfolding coefficient
coefficient-last l a k e = rw (eq-eqb k (l - 1) e)

pub coefficient-other : (l : ℕ) (a : ℕ → ℕ) (k : ℕ) → (k ≡ l - 1 → ⊥) → a k ≡ coefficient l a k
unfolding coefficient
coefficient-other l a k n = rw (ne_eqb k (l - 1) n)

-- Algorithm 1: a0·I + a1·S + .. + a(l-1)·S^(l-1), at those coefficients
abbrev pub algorithm1 : ℕ → (ℕ → ℕ) → Matrix
algorithm1 l a = polynomial zero_m add_m (mul_m l) scale_m (one_m l) (S l) l (coefficient l a)
