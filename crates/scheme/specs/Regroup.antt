-- All powers of S at once: Q1 and Q2 are polynomials in S, so the sums over j and k are taken once for each matrix and pair of powers,
-- and Q1 and Q2 enter by their coefficients. So the verdict and the vinegar part can be computed.
-- Rests on algebra's `value-regroup` at S.
use Rattle.std.specs.Prelude.{◌≡◌, refl, List, ℕ, ◌<◌}
use Rattle.std.proofs.Math.Path.{sym}
use Rattle.algebra.specs.Sum.{sum, sum-cong, mul-sum}
use Rattle.algebra.specs.Map.{quad}
use Rattle.algebra.specs.Regroup.{value-regroup}
use Rattle.field.specs.Field.{add, mul}
use Rattle.sets.specs.declared.Set.{Set}
use Rattle.sets.specs.Sets.{terms, variables}
use Rattle.matrix.specs.Matrix.{Matrix, mul_m, transpose, scale_m}
use Rattle.matrix.specs.MatrixRing.{matrices, matrices-scaled}
use Rattle.matrix.specs.Same.{sum-entry}
use Rattle.matrix.specs.RingElements.{power_s, coefficient, algorithm1}
use Rattle.matrix.specs.RingLaws.{S-base}
use Rattle.scheme.specs.Streams.{group_of, q1_number, q2_number, A, B, Q1, Q2, P11}
use Rattle.scheme.specs.Maps.{sum_m, equation, matrix_index, PWith, public_map_with, vinegar_part}

-- the coefficients of Q1(i,alpha) and of Q2(i,alpha), by Algorithm 1
abbrev pub q1_of : (set : Set) (abq : List ℕ) → ℕ → ℕ → ℕ → ℕ
q1_of set abq i alpha = coefficient set.l (group_of set.l abq (q1_number set i alpha))

abbrev pub q2_of : (set : Set) (abq : List ℕ) → ℕ → ℕ → ℕ → ℕ
q2_of set abq i alpha = coefficient set.l (group_of set.l abq (q2_number set i alpha))

-- S^x · U
abbrev pub power_times : (l x : ℕ) → Matrix → Matrix
power_times l x U = mul_m l (power_s l x) U

-- the sum over j, k < n of (S^x·Uj)ᵗ · M(j,k) · (S^y·Uk)
unfoldable pub power_sums : (l n : ℕ) (M : ℕ → ℕ → Matrix) (U : ℕ → Matrix) (x y : ℕ) → Matrix
power_sums l n M U x y = sum_m n (λ j. sum_m n (λ k. mul_m l (transpose (power_times l x (U j))) (mul_m l (M j k) (power_times l y (U k)))))

-- what stands between A and B: the sum over x, y < l of a(x)·b(y) times these sums
abbrev pub gathered : (l n : ℕ) (a b : ℕ → ℕ) (M : ℕ → ℕ → Matrix) (U : ℕ → Matrix) → Matrix
gathered l n a b M U = sum_m l (λ x. sum_m l (λ y. scale_m (a x) (scale_m (b y) (power_sums l n M U x y))))

-- a map's equation by powers, where Q1 and Q2 come from Algorithm 1
equation-regroup : (l n count : ℕ) (index : ℕ → ℕ → ℕ) (As : ℕ → ℕ → Matrix) (g1 : ℕ → ℕ → ℕ → ℕ) (M : ℕ → ℕ → ℕ → Matrix)
    (g2 : ℕ → ℕ → ℕ → ℕ) (Bs : ℕ → ℕ → Matrix) (U : ℕ → Matrix) (i : ℕ) → 0 < l
    → equation l n count index As (λ i alpha. algorithm1 l (g1 i alpha)) M (λ i alpha. algorithm1 l (g2 i alpha)) Bs U i
    ≡ sum_m count (λ alpha. mul_m l (As i alpha)
    (mul_m l (gathered l n (coefficient l (g1 i alpha)) (coefficient l (g2 i alpha)) (M (index i alpha)) U) (Bs i alpha)))
unfolding equation power_sums quad
equation-regroup l n count index As g1 M g2 Bs U i p =
    value-regroup (matrices l) (S-base l p) (matrices-scaled l) n l (λ alpha. coefficient l (g1 i alpha)) (λ alpha. coefficient l (g2 i alpha))
    (As i) (λ alpha. M (index i alpha)) (Bs i) U (λ alpha h. refl) (λ alpha h. refl)

module _ (set : Set) (public abq : List ℕ) (p : 0 < set.l) where
  -- the public map, with the part P22 given
  pub public_map-regroup : (P22s : ℕ → ℕ → ℕ → Matrix) (U : ℕ → Matrix) (i : ℕ)
      → public_map_with set public abq P22s U i
      ≡ sum_m (terms set) (λ alpha. mul_m set.l (A set abq i alpha) (mul_m set.l
      (gathered set.l (variables set) (q1_of set abq i alpha) (q2_of set abq i alpha) (PWith set public P22s (matrix_index set i alpha)) U)
      (B set abq i alpha)))
  unfolding public_map_with Q1 Q2
  public_map-regroup P22s U i =
      equation-regroup set.l (variables set) (terms set) (matrix_index set) (A set abq) (λ i alpha. group_of set.l abq (q1_number set i alpha))
      (PWith set public P22s) (λ i alpha. group_of set.l abq (q2_number set i alpha)) (B set abq) U i p

  -- the vinegar part
  pub vinegar_part-regroup : (vinegar : ℕ → Matrix) (i : ℕ)
      → vinegar_part set public abq vinegar i
      ≡ sum_m (terms set) (λ alpha. mul_m set.l (A set abq i alpha) (mul_m set.l
      (gathered set.l set.v (q1_of set abq i alpha) (q2_of set abq i alpha) (P11 set public (matrix_index set i alpha)) vinegar)
      (B set abq i alpha)))
  unfolding vinegar_part Q1 Q2
  vinegar_part-regroup vinegar i =
      equation-regroup set.l set.v (terms set) (matrix_index set) (A set abq) (λ i alpha. group_of set.l abq (q1_number set i alpha))
      (P11 set public) (λ i alpha. group_of set.l abq (q2_number set i alpha)) (B set abq) vinegar i p

-- ---- the double sum, one index after the other

module _ (l n : ℕ) (M : ℕ → ℕ → Matrix) (U : ℕ → Matrix) (x y : ℕ) where
  pub power_sums-by-right :
      power_sums l n M U x y ≡ sum_m n (λ j. mul_m l (transpose (power_times l x (U j))) (sum_m n (λ k. mul_m l (M j k) (power_times l y (U k)))))
  unfolding power_sums
  power_sums-by-right = sum-cong (matrices l) n (λ j h. sym (mul-sum (matrices l) (transpose (power_times l x (U j))) n _))

-- ---- entry by entry, as rows are added up

-- a sum of products
pub products-entry : (l n : ℕ) (X Y : ℕ → Matrix) (r c : ℕ)
    → sum_m n (λ j. mul_m l (X j) (Y j)) r c ≡ sum 0 add n (λ j. sum 0 add l (λ a. mul (X j r a) (Y j a c)))
unfolding mul_m
products-entry l n X Y r c = sum-entry n _ r c

-- the same with the left factors transposed: row r gains row a of Yj times entry (a, r) of Xj
pub transposed-entry : (l n : ℕ) (X Y : ℕ → Matrix) (r c : ℕ)
    → sum_m n (λ j. mul_m l (transpose (X j)) (Y j)) r c ≡ sum 0 add n (λ j. sum 0 add l (λ a. mul (X j a r) (Y j a c)))
unfolding transpose
transposed-entry l n X Y r c = products-entry l n (λ j. transpose (X j)) Y r c
