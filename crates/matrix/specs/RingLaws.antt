-- F16[S] is commutative and its elements are symmetric, for every l above 0.
-- Rests on algebra's laws of polynomials in one element, at S.
use Rattle.std.specs.Prelude.{◌≡◌, refl, true, false, ℕ, ◌%◌, ◌<◌, eqb}
use Rattle.std.proofs.Common.{sym, ◌∙◌, mod-lt, mod-eq_of_lt, arith, eq-eqb, ne_eqb}
use Rattle.std.proofs.Math.Nat.{mod-mod}
use Rattle.std.proofs.Math.Decide.{ℕ_discrete}
use Rattle.ground.specs.Pick.{pick}
use Rattle.algebra.specs.Sum.{sum_one}
use Rattle.algebra.specs.Powers.{Base, polynomial-tr, polynomial-comm}
use Rattle.field.specs.Laws.{one-mul, mul-one, zero-mul, mul-zero}
use Rattle.field.specs.FieldRing.{field-ring}
use Rattle.matrix.specs.Matrix.{Matrix, mul_m, transpose}
use Rattle.matrix.specs.MatrixRing.{entries, matrices, matrices-scaled}
use Rattle.matrix.specs.RingElements.{one_m, S, coefficient, algorithm1}

-- a matrix that is the same read modulo l, with elements for entries
record Periodic (l : ℕ) (M : Matrix) : Type 0 where
  row : (r c : ℕ) → M (r % l) c ≡ M r c
  column : (r c : ℕ) → M r (c % l) ≡ M r c
  element : (r c : ℕ) → M r c < 16

one-periodic : (l : ℕ) → Periodic l (one_m l)
unfolding one_m
one-periodic l = record {
  row = λ r c. rw mod-mod;
  column = λ r c. rw mod-mod;
  element = λ r c. elim (eqb (r % l) (c % l)) as (λ b. pick b 1 0 < 16) [ true ↦ omega arith | false ↦ omega arith ];
}

S-periodic : (l : ℕ) → Periodic l (S l)
unfolding S
S-periodic l = record { row = λ r c. rw mod-mod; column = λ r c. rw mod-mod; element = λ r c. omega arith }

-- the one acts as one on them, from either side
one-times : (l : ℕ) → 0 < l → (M : Matrix) → Periodic l M → mul_m l (one_m l) M ≡ M
unfolding mul_m one_m
one-times l p M P =
    entries (λ r c.
    let h : r % l < l = mod-lt r p in
    sum_one field-ring l (r % l) _ h
    (λ k hk n. rw (mod-eq_of_lt hk, ne_eqb (r % l) k (λ e. n (sym e))) (zero-mul (M k c)))
    ∙ rw (mod-mod r l, eq-eqb (r % l) (r % l) refl) (one-mul (M (r % l) c) (P.element (r % l) c)) ∙ P.row r c)

times-one : (l : ℕ) → 0 < l → (M : Matrix) → Periodic l M → mul_m l M (one_m l) ≡ M
unfolding mul_m one_m
times-one l p M P =
    entries (λ r c.
    let h : c % l < l = mod-lt c p in
    sum_one field-ring l (c % l) _ h
    (λ k hk n. rw (mod-eq_of_lt hk, ne_eqb k (c % l) n) (mul-zero (M r k)))
    ∙ rw (mod-mod c l, eq-eqb (c % l) (c % l) refl) (mul-one (M r (c % l)) (P.element r (c % l))) ∙ P.column r c)

one-symmetric : (l r c : ℕ) → one_m l c r ≡ one_m l r c
unfolding one_m
one-symmetric l r c =
    elim (ℕ_discrete (c % l) (r % l)) [
      | yes e ↦ rw (eq-eqb (c % l) (r % l) e, eq-eqb (r % l) (c % l) (sym e))
      | no n ↦ rw (ne_eqb (c % l) (r % l) n, ne_eqb (r % l) (c % l) (λ e. n (sym e)))
    ]

S-symmetric : (l r c : ℕ) → S l c r ≡ S l r c
unfolding S
S-symmetric l r c = omega arith

pub S-base : (l : ℕ) → 0 < l → Base (mul_m l) transpose (one_m l) (S l)
unfolding transpose
S-base l p = record {
  one-one = one-times l p (one_m l) (one-periodic l);
  one-mul = one-times l p (S l) (S-periodic l);
  mul-one = times-one l p (S l) (S-periodic l);
  tr-one = entries (λ r c. one-symmetric l r c);
  tr-base = entries (λ r c. S-symmetric l r c);
}

-- elements of F16[S] commute, and are symmetric
pub algorithm1-comm : (l : ℕ) → 0 < l → (a b : ℕ → ℕ) → mul_m l (algorithm1 l a) (algorithm1 l b) ≡ mul_m l (algorithm1 l b) (algorithm1 l a)
algorithm1-comm l p a b = polynomial-comm (matrices l) (S-base l p) (matrices-scaled l) l l (coefficient l a) (coefficient l b)

pub algorithm1-symmetric : (l : ℕ) → 0 < l → (a : ℕ → ℕ) → transpose (algorithm1 l a) ≡ algorithm1 l a
algorithm1-symmetric l p a = polynomial-tr (matrices l) (S-base l p) (matrices-scaled l) l (coefficient l a)
