-- The central map where the vinegar is known: the vinegar part plus the linear part, which is linear in the oil.
-- Rests on algebra's `value-split` at the l by l matrices, and on the parts of F.
use Rattle.std.specs.Prelude.{◌≡◌, List, ℕ, ◌+◌, ◌<◌}
use Rattle.std.proofs.Math.Path.{refl, ap₂}
use Rattle.std.proofs.Common.{◌∙◌}
use Rattle.algebra.specs.Map.{value, value-cong}
use Rattle.algebra.specs.Split as Split
use Rattle.sets.specs.declared.Set.{Set}
use Rattle.sets.specs.Sets.{terms}
use Rattle.matrix.specs.Matrix.{Matrix, add_m, scale_m}
use Rattle.matrix.specs.MatrixRing.{matrices, matrices-scaled}
use Rattle.matrix.specs.Same.{mul_m-lt, sum_m-lt}
use Rattle.scheme.specs.Streams.{A, B, Q1, Q2}
use Rattle.scheme.specs.Maps.{equation, matrix_index, F, central_map, vinegar_part, linear_part}
use Rattle.scheme.specs.Parts.{parts-11, parts-22}

module _ (set : Set) (public abq private : List ℕ) where
  -- the central map at vinegar and oil is the vinegar part plus the linear part: F22 = 0, so no term has two oil indices
  pub central_map-split : {vinegar oil X : ℕ → Matrix}
      → ((j : ℕ) → j < set.v → X j ≡ vinegar j) → ((k : ℕ) → k < set.o → X (set.v + k) ≡ oil k) → (i : ℕ)
      → central_map set public abq private X i ≡ add_m (vinegar_part set public abq vinegar i) (linear_part set public abq private vinegar oil i)
  unfolding central_map vinegar_part linear_part equation
  central_map-split e-vinegar e-oil i =
      Split.value-split (matrices set.l) (A set abq i) (Q1 set abq i) (λ alpha. F set public private (matrix_index set i alpha)) (Q2 set abq i) (B set abq i)
      (λ alpha j k h hj hk. parts-22 set.v _ _ _ _ j k) e-vinegar e-oil
      ∙ ap₂ add_m (value-cong (matrices set.l) (terms set) set.v (λ alpha h. refl) (λ alpha h. refl)
      (λ alpha j k h hj hk. parts-11 set.v _ _ _ _ j k hj hk) (λ alpha h. refl) (λ alpha h. refl) (λ j h. refl)) refl

  -- the linear part is additive in the oil, and commutes with scalars

  pub linear_part-add : (vinegar oil oil' : ℕ → Matrix) (i : ℕ)
      → linear_part set public abq private vinegar (λ k. add_m (oil k) (oil' k)) i
      ≡ add_m (linear_part set public abq private vinegar oil i) (linear_part set public abq private vinegar oil' i)
  unfolding linear_part
  linear_part-add vinegar oil oil' i = Split.linear_part-add (matrices set.l) _ _ _ _ _ _ _ _ _ oil oil'

  pub linear_part-scale : (vinegar : ℕ → Matrix) (a : ℕ) (oil : ℕ → Matrix) (i : ℕ)
      → linear_part set public abq private vinegar (λ k. scale_m a (oil k)) i ≡ scale_m a (linear_part set public abq private vinegar oil i)
  unfolding linear_part
  linear_part-scale vinegar a oil i = Split.linear_part-scale (matrices set.l) _ _ _ _ _ _ _ _ _ (matrices-scaled set.l) a oil

  -- the entries of the vinegar part are elements
  pub vinegar_part-lt : (vinegar : ℕ → Matrix) (i r c : ℕ) → vinegar_part set public abq vinegar i r c < 16
  unfolding vinegar_part equation value
  vinegar_part-lt vinegar i r c =
      sum_m-lt (terms set) _ r c (λ alpha h. sum_m-lt set.v _ r c (λ j hj. sum_m-lt set.v _ r c (λ k hk. mul_m-lt set.l _ _ r c)))
