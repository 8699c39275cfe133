-- The linear system that signing solves: the coefficient of each oil entry in each entry of the linear part, and how it is made from powers of S.
-- Unknown number e < o·l² is entry (a, b) of oil matrix k, e = k·l² + (a·l + b).
-- That the linear part is made of these coefficients, and what the system's solutions are, stands in proofs/Coefficients.
-- Rests on algebra's sums and powers, and on Algorithm 1.
use Rattle.std.specs.Prelude.{◌≡◌, List, ℕ, ◌*◌, ◌/◌, ◌%◌, ◌<◌}
use Rattle.std.proofs.Math.Path.{refl, ap₂}
use Rattle.std.proofs.Common.{◌∙◌}
use Rattle.algebra.specs.Sum.{sum, sum-cong, sum-add, sum-mul, mul-sum, sum-swap, scale-sum}
use Rattle.algebra.specs.Powers.{polynomial, power-tr}
use Rattle.field.specs.Field.{add, mul}
use Rattle.field.specs.Laws.{mul-lt, add-lt}
use Rattle.field.specs.FieldRing.{sum_lt}
use Rattle.sets.specs.declared.Set.{Set}
use Rattle.sets.specs.Sets.{terms}
use Rattle.matrix.specs.Matrix.{Matrix, add_m, mul_m, transpose, scale_m}
use Rattle.matrix.specs.MatrixRing.{matrices, matrices-scaled}
use Rattle.matrix.specs.RingLaws.{S-base}
use Rattle.scheme.specs.Streams.{A, B, Q1, Q2, P11, P12, P21, T12}
use Rattle.scheme.specs.Maps.{sum_m, matrix_index, F12, F21}
use Rattle.scheme.specs.Regroup.{q1_of, q2_of, power_times}

module _ (set : Set) (public abq private : List ℕ) (vinegar : ℕ → Matrix) where
  -- L(i,alpha,k) = the sum over j < v of Xjᵗ · Q1 · F12(i',j,k): what stands between A and Q2 · Ok · B
  unfoldable pub left_sum : (i alpha k : ℕ) → Matrix
  left_sum i alpha k =
      sum_m set.v (λ j. mul_m set.l (transpose (vinegar j)) (mul_m set.l (Q1 set abq i alpha) (F12 set public private (matrix_index set i alpha) j k)))

  -- R(i,alpha,k) = the sum over j < v of F21(i',k,j) · Q2 · Xj: what stands between A · Okᵗ · Q1 and B
  unfoldable pub right_sum : (i alpha k : ℕ) → Matrix
  right_sum i alpha k =
      sum_m set.v (λ j. mul_m set.l (F21 set public private (matrix_index set i alpha) k j) (mul_m set.l (Q2 set abq i alpha) (vinegar j)))

  -- the coefficient of entry (a, b) of oil matrix k in entry (r, c) of equation i
  unfoldable pub coefficient_of : (i r c k a b : ℕ) → ℕ
  coefficient_of i r c k a b = sum 0 add (terms set) (λ alpha. add
      (mul (mul_m set.l (A set abq i alpha) (mul_m set.l (left_sum i alpha k) (Q2 set abq i alpha)) r a) (B set abq i alpha b c))
      (mul (A set abq i alpha r b) (mul_m set.l (Q1 set abq i alpha) (mul_m set.l (right_sum i alpha k) (B set abq i alpha)) a c)))

  -- the same, by the unknown's number
  unfoldable pub coefficient_at : (i r c e : ℕ) → ℕ
  coefficient_at i r c e = coefficient_of i r c (e / (set.l * set.l)) (e % (set.l * set.l) / set.l) (e % set.l)

  pub coefficient_at-lt : (i r c e : ℕ) → coefficient_at i r c e < 16
  unfolding coefficient_at coefficient_of
  coefficient_at-lt i r c e = sum_lt (terms set) (λ alpha h. add-lt _ _ (mul-lt _ _) (mul-lt _ _))

-- ---- the two sums by powers of S, as they are computed

module _ (set : Set) (public : List ℕ) (vinegar : ℕ → Matrix) where
  -- the sum over j < v of (S^x·Xj)ᵗ · P11(i',j,u)
  unfoldable pub left_p11 : (i' u x : ℕ) → Matrix
  left_p11 i' u x = sum_m set.v (λ j. mul_m set.l (transpose (power_times set.l x (vinegar j))) (P11 set public i' j u))

  -- the sum over j < v of P11(i',u,j) · (S^y·Xj)
  unfoldable pub right_p11 : (i' u y : ℕ) → Matrix
  right_p11 i' u y = sum_m set.v (λ j. mul_m set.l (P11 set public i' u j) (power_times set.l y (vinegar j)))

module _ (set : Set) (public private : List ℕ) (vinegar : ℕ → Matrix) where
  -- the sum over j < v of (S^x·Xj)ᵗ · F12(i',j,k)
  unfoldable pub left_power : (i' k x : ℕ) → Matrix
  left_power i' k x = sum_m set.v (λ j. mul_m set.l (transpose (power_times set.l x (vinegar j))) (F12 set public private i' j k))

  -- the sum over j < v of F21(i',k,j) · (S^y·Xj)
  unfoldable pub right_power : (i' k y : ℕ) → Matrix
  right_power i' k y = sum_m set.v (λ j. mul_m set.l (F21 set public private i' k j) (power_times set.l y (vinegar j)))

  -- sums with P11 first, then times T12 (a symmetric matrix): F12 and F21 need not be stored

  pub left-power-sums : (i' k x : ℕ)
      → left_power i' k x
      ≡ add_m (sum_m set.v (λ j. mul_m set.l (transpose (power_times set.l x (vinegar j))) (P12 set public i' j k)))
      (sum_m set.v (λ u. mul_m set.l (left_p11 set public vinegar i' u x) (T12 set private u k)))
  unfolding left_power F12 left_p11
  left-power-sums i' k x =
      let R = matrices set.l in
      sum-cong R set.v (λ j h. R.mul-add _ _ _) ∙ sum-add R set.v _ _
      ∙ ap₂ add_m refl (simp (mul-sum R, sum-mul R, R.mul_assoc) (sum-swap R set.v set.v _))

  pub right-power-sums : (i' k y : ℕ)
      → right_power i' k y
      ≡ add_m (sum_m set.v (λ j. mul_m set.l (P21 set public i' k j) (power_times set.l y (vinegar j))))
      (sum_m set.v (λ u. mul_m set.l (transpose (T12 set private u k)) (right_p11 set public vinegar i' u y)))
  unfolding right_power F21 right_p11
  right-power-sums i' k y =
      let R = matrices set.l in
      sum-cong R set.v (λ j h. R.add-mul _ _ _) ∙ sum-add R set.v _ _
      ∙ ap₂ add_m refl (simp (mul-sum R, sum-mul R, R.mul_assoc) (sum-swap R set.v set.v _))

  module _ (abq : List ℕ) where
    pub left-by-powers : (i alpha k : ℕ) → 0 < set.l
        → left_sum set public abq private vinegar i alpha k ≡ sum_m set.l (λ x. scale_m (q1_of set abq i alpha x) (left_power (matrix_index set i alpha) k x))
    unfolding left_sum left_power Q1 polynomial
    left-by-powers i alpha k p =
        let R = matrices set.l in
        let C = matrices-scaled set.l in
        simp (mul-sum R, sum-mul R, scale-sum R C, C.scale-mul, C.mul-scale, R.tr-mul, power-tr R (S-base set.l p), R.mul_assoc)
        (sum-swap R set.v set.l _)

    pub right-by-powers : (i alpha k : ℕ)
        → right_sum set public abq private vinegar i alpha k ≡ sum_m set.l (λ y. scale_m (q2_of set abq i alpha y) (right_power (matrix_index set i alpha) k y))
    unfolding right_sum right_power Q2 polynomial
    right-by-powers i alpha k =
        let R = matrices set.l in
        let C = matrices-scaled set.l in
        simp (mul-sum R, sum-mul R, scale-sum R C, C.scale-mul, C.mul-scale)
        (sum-swap R set.v set.l _)

-- ---- the system by row number and unknown number

module _ (set : Set) (public abq private : List ℕ) (vinegar : ℕ → Matrix) where
  -- row y of the system, entry (r, c) of equation i with y = i·l² + (r·l + c), times the unknowns s
  unfoldable pub row_times : (s : ℕ → ℕ) (y : ℕ) → ℕ
  row_times s y =
      sum 0 add (set.o * (set.l * set.l))
      (λ e. mul (coefficient_at set public abq private vinegar (y / (set.l * set.l)) (y % (set.l * set.l) / set.l) (y % set.l) e) (s e))
