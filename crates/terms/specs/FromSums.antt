-- Where the table holds a map's power sums, the equation from the table is the map's: the public map's, and the vinegar part's.
-- Rests on scheme's maps by powers.
use Rattle.std.proofs.Common.{sym}
use Rattle.std.specs.Prelude.{List, ℕ, ◌+◌, ◌*◌, ◌<◌}
use Rattle.rows.specs.Tile.{tile}
use Rattle.sets.specs.declared.Set.{Set}
use Rattle.sets.specs.Sets.{terms, variables}
use Rattle.matrix.specs.Matrix.{Matrix, mul_m}
use Rattle.matrix.specs.Same.{Same, same_refl, same-trans, same-equal, same_sum, same-mul, same_scale}
use Rattle.scheme.specs.Streams.{A, B, P11}
use Rattle.scheme.specs.Maps.{sum_m, matrix_index, PWith, public_map_with, vinegar_part}
use Rattle.scheme.specs.Regroup.{q1_of, q2_of, power_sums, gathered, public_map-regroup, vinegar_part-regroup}
use Rattle.sets.specs.Bounds.{Bounds}
use Rattle.streams.specs.TermPlaces.{index-lt}
use Rattle.terms.specs.Terms.{gathered_from, term_from, equation_from}

-- the table holds the power sums of the first `count` of the matrices M
pub record HoldsSums (l n : ℕ) (M : ℕ → ℕ → ℕ → Matrix) (U : ℕ → Matrix) (count : ℕ) (sums : List ℕ) : Type 0 where
  pub same : (i x y : ℕ) → i < count → x < l → y < l → Same l (tile l (l * l) sums (i * l + x) y) (power_sums l n (M i) U x y)

gathered-from : {l n count : ℕ} {M : ℕ → ℕ → ℕ → Matrix} {U : ℕ → Matrix} {sums : List ℕ} → HoldsSums l n M U count sums → (a b : ℕ → ℕ) (index : ℕ) → index < count
    → Same l (gathered_from l a b sums index) (gathered l n a b (M index) U)
unfolding gathered_from
gathered-from {l} h a b index hi = same_sum l (λ x hx. same_sum l (λ y hy. same_scale (a x) (same_scale (b y) (h.same index x y hi hx hy))))

module _ {set : Set} (bounds : Bounds set) (abq : List ℕ) where
  equation-from-sums : {n : ℕ} {M : ℕ → ℕ → ℕ → Matrix} {U : ℕ → Matrix} {sums : List ℕ} → HoldsSums set.l n M U set.o sums → (i : ℕ) → i < set.o
      → Same set.l (equation_from set abq sums i)
      (sum_m (terms set) (λ alpha. mul_m set.l (A set abq i alpha) (mul_m set.l
      (gathered set.l n (q1_of set abq i alpha) (q2_of set abq i alpha) (M (matrix_index set i alpha)) U)
      (B set abq i alpha))))
  unfolding term_from
  equation-from-sums h i hi =
      same_sum (terms set) (λ alpha below.
      same-mul same_refl (same-mul
      (gathered-from h (q1_of set abq i alpha) (q2_of set abq i alpha) (matrix_index set i alpha) (index-lt (record { bounds = bounds; equation = hi; below = below })))
      same_refl))

  module _ (public : List ℕ) (p : 0 < set.l) where
    -- the public map, with the part P22 given
    pub public-from-sums : (P22s : ℕ → ℕ → ℕ → Matrix) {U : ℕ → Matrix} {sums : List ℕ} → HoldsSums set.l (variables set) (PWith set public P22s) U set.o sums
        → (i : ℕ) → i < set.o → Same set.l (equation_from set abq sums i) (public_map_with set public abq P22s U i)
    public-from-sums P22s {U} h i hi = same-trans (equation-from-sums h i hi) (same-equal (sym (public_map-regroup set public abq p P22s U i)))

    -- the vinegar part
    pub vinegar-from-sums : {U : ℕ → Matrix} {sums : List ℕ} → HoldsSums set.l set.v (P11 set public) U set.o sums
        → (i : ℕ) → i < set.o → Same set.l (equation_from set abq sums i) (vinegar_part set public abq U i)
    vinegar-from-sums {U} h i hi = same-trans (equation-from-sums h i hi) (same-equal (sym (vinegar_part-regroup set public abq p U i)))
