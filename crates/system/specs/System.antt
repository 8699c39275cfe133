-- The system that was built is the scheme's: every coefficient, and the vinegar part plus the target in the last column.
-- Rests on Filled and Equation, and on scheme's sums by powers.
use Rattle.std.specs.Prelude.{◌≡◌, refl, Bool, List, get_or}
use Rattle.std.proofs.Common.{sym, ◌∙◌, div-add-mod', div-lt_iff_lt-mul, mod-lt, lt-ltb, le-ltb}
use Rattle.std.proofs.Math.Path.{ap, ap₂}
use Prim.Native.Nat.{ℕ, ◌+◌, ◌*◌, ◌/◌, ◌%◌, ◌<◌, ◌≤◌}
use native.Mathlib.Omega.{arith}
use Rattle.std.proofs.Math.Arith.{digits_lt, digits_div, digits_mod}
use Rattle.ground.specs.Pick.{pick}
use Rattle.algebra.specs.Sum.{sum, sum-cong, sum_zeros}
use Rattle.algebra.specs.Powers.{polynomial}
use Rattle.field.specs.Field.{add, mul}
use Rattle.field.specs.Laws.{add-zero, zero-add, mul_comm}
use Rattle.field.specs.FieldRing.{field-ring}
use Rattle.packing.specs.Packing.{element}
use Rattle.rows.specs.Tile.{tile}
use Rattle.sets.specs.declared.Set.{Set}
use Rattle.sets.specs.Sets.{terms}
use Rattle.sets.specs.Bounds.{Bounds}
use Rattle.matrix.specs.Matrix.{Matrix, mul_m}
use Rattle.matrix.specs.Same.{Same, same_refl, same-trans, same-equal, same_sum, same_scale, same-mul}
use Rattle.matrix.specs.RingElements.{algorithm1, coefficient}
use Rattle.scheme.specs.Streams.{A, B, Q1, Q2, P11, T12}
use Rattle.scheme.specs.Maps.{matrix_index, vinegar_part}
use Rattle.scheme.specs.Regroup.{q1_of, q2_of, power_times}
use Rattle.scheme.specs.Oil.{square-pos, last-digit, entry_at}
use Rattle.scheme.specs.Coefficients.{left_sum, right_sum, coefficient_of, coefficient_at, left-by-powers, right-by-powers}
use Rattle.streams.specs.TermPlaces.{index-lt}
use Rattle.terms.specs.Terms.{equation_from}
use Rattle.terms.specs.FromSums.{HoldsSums, vinegar-from-sums}
use Rattle.tables.specs.Table.{Holds}
use Rattle.tables.specs.RingRows.{Powers}
use Rattle.partial_sums.specs.Filled.{LeftHolds, RightHolds, SumsHold, sums-scheme, right-scheme, left-scheme}
use Rattle.system.specs.Sides.{combined_from, side_of}
use Rattle.system.specs.Equation.{left_side, right_side, term_cell, term_row, target_row, Built}

-- Algorithm 1's element, from the table of the powers of S
ring-element : (l : ℕ) (sp : List ℕ) → Powers l sp → (a : ℕ → ℕ) → Same l (combined_from l (coefficient l a) sp l 0 0 1 0) (algorithm1 l a)
unfolding combined_from polynomial
ring-element l sp h a = same_sum l (λ x hx.
    let row : 0 + x * 1 ≡ x = omega arith in
    let column : 0 + x * 0 ≡ 0 = omega arith in
    same_scale (coefficient l a x) (same-trans (same-equal (ap₂ (tile l l sp) row column)) (h.same x 0 hx (omega arith))))

module _ (set : Set) (bounds : Bounds set) (public abq private : List ℕ) (vinegar : ℕ → Matrix) (x t left right sums sp : List ℕ)
    (hx : Holds set.l (set.l * set.l) set.v set.l x (λ j b. power_times set.l b (vinegar j)))
    (ht : Holds set.l (set.o * set.l) set.v set.o t (T12 set private)) (hs : Powers set.l sp) where
  positive : 0 < set.l
  positive = omega (arith, bounds.limits.l-least)

  module _ {before : List ℕ} (hleft : LeftHolds set public x t before left) {before' : List ℕ} (hright : RightHolds set public x t before' right)
      (i : ℕ) (hi : i < set.o) (alpha : ℕ) (below : alpha < terms set) (k : ℕ) (hk : k < set.o) where
    index : matrix_index set i alpha < set.o
    index = index-lt (record { bounds = bounds; equation = hi; below = below })

    left-sum : Same set.l (combined_from set.l (q1_of set abq i alpha) left (set.o * set.l) (matrix_index set i alpha * set.l + k * 0) (k * 1) 1 0)
        (left_sum set public abq private vinegar i alpha k)
    unfolding combined_from
    left-sum = same-trans
        (same_sum set.l (λ y hy.
        let row : matrix_index set i alpha * set.l + k * 0 + y * 1 ≡ matrix_index set i alpha * set.l + y = omega arith in
        let column : k * 1 + y * 0 ≡ k = omega arith in
        same_scale (q1_of set abq i alpha y) (same-trans (same-equal (ap₂ (tile set.l (set.o * set.l) left) row column))
        (same-trans (hleft.same (matrix_index set i alpha) y k index hy hk) (left-scheme set public x vinegar hx private t ht (matrix_index set i alpha) k y hk hy)))))
        (same-equal (sym (left-by-powers set public private vinegar abq i alpha k positive)))

    right-sum : Same set.l (combined_from set.l (q2_of set abq i alpha) right (set.l * set.l) (matrix_index set i alpha * set.o + k * 1) (k * 0) 0 1)
        (right_sum set public abq private vinegar i alpha k)
    unfolding combined_from
    right-sum = same-trans
        (same_sum set.l (λ y hy.
        let row : matrix_index set i alpha * set.o + k * 1 + y * 0 ≡ matrix_index set i alpha * set.o + k = omega arith in
        let column : k * 0 + y * 1 ≡ y = omega arith in
        same_scale (q2_of set abq i alpha y) (same-trans (same-equal (ap₂ (tile set.l (set.l * set.l) right) row column))
        (same-trans (hright.same (matrix_index set i alpha) k y index hk hy) (right-scheme set public x vinegar hx private t ht (matrix_index set i alpha) k y hk hy)))))
        (same-equal (sym (right-by-powers set public private vinegar abq i alpha k)))

    left-side : Same set.l (left_side set abq left right sp i alpha k)
        (mul_m set.l (A set abq i alpha) (mul_m set.l (left_sum set public abq private vinegar i alpha k) (Q2 set abq i alpha)))
    unfolding side_of Q2
    left-side = same-mul same_refl (same-mul left-sum (ring-element set.l sp hs _))

    right_side_lem : Same set.l (right_side set abq left right sp i alpha k)
        (mul_m set.l (Q1 set abq i alpha) (mul_m set.l (right_sum set public abq private vinegar i alpha k) (B set abq i alpha)))
    unfolding side_of Q1
    right_side_lem = same-mul (ring-element set.l sp hs _) (same-mul right-sum same_refl)

  module _ {before before' : List ℕ} (hleft : LeftHolds set public x t before left) (hright : RightHolds set public x t before' right) where
    -- the coefficient of unknown (k; a, b) in entry (r, c) of equation i
    pub coefficient-cell : (i r c k a b : ℕ) → i < set.o → r < set.l → c < set.l → k < set.o → a < set.l → b < set.l
        → sum 0 add (terms set) (λ alpha. term_cell set abq left right sp i alpha r c (k * set.l + a) b) ≡ coefficient_of set public abq private vinegar i r c k a b
    unfolding term_cell coefficient_of
    coefficient-cell i r c k a b hi hr hc hk ha hb =
        sum-cong field-ring (terms set) (λ alpha below.
        ap₂ (λ q y. add (mul (left_side set abq left right sp i alpha q r y) (B set abq i alpha b c)) (mul (right_side set abq left right sp i alpha q y c) (A set abq i alpha r b)))
        (digits_div k ha) (digits_mod k ha)
        ∙ ap₂ add
        (ap (λ m. mul m (B set abq i alpha b c)) ((left-side hleft hright i hi alpha below k hk).at r a hr ha))
        (ap (λ m. mul m (A set abq i alpha r b)) ((right_side_lem hleft hright i hi alpha below k hk).at a c ha hc) ∙ mul_comm _ _))

    module _ {target before'' after : List ℕ} (built : Built set abq target left right sums sp before'' after) where
      -- every coefficient of the system
      pub built-coefficient : (i r c k a b : ℕ) → i < set.o → r < set.l → c < set.l → k < set.o → a < set.l → b < set.l
          → get_or after ((i * (set.l * set.l) + (r * set.l + c)) * (set.o * set.l * set.l + 1) + ((k * set.l + a) * set.l + b)) 0
          ≡ coefficient_of set public abq private vinegar i r c k a b
      unfolding term_row target_row
      built-coefficient i r c k a b hi hr hc hk ha hb =
          let z : ℕ = (k * set.l + a) * set.l + b in
          let e : ℕ = r * set.l + c in
          let below : (k * set.l + a) * set.l + b < set.o * set.l * set.l = digits_lt (digits_lt hk ha) hb in
          built.row i (r * set.l + c) ((k * set.l + a) * set.l + b) hi (digits_lt hr hc) (omega arith)
          ∙ ap (λ (w : Bool). add (sum 0 add (terms set) (λ alpha. pick w (term_cell set abq left right sp i alpha (e / set.l) (e % set.l) (z / set.l) (z % set.l)) 0))
          (pick w 0 (add (equation_from set abq sums i (e / set.l) (e % set.l)) (element target (i * (set.l * set.l) + e)))))
          (lt-ltb ((k * set.l + a) * set.l + b) (set.o * set.l * set.l) below)
          ∙ add-zero _
          ∙ ap₂ (λ u v. sum 0 add (terms set) (λ alpha. term_cell set abq left right sp i alpha u v (z / set.l) (z % set.l))) (digits_div r hc) (digits_mod r hc)
          ∙ ap₂ (λ u v. sum 0 add (terms set) (λ alpha. term_cell set abq left right sp i alpha r c u v)) (digits_div (k * set.l + a) hb) (digits_mod (k * set.l + a) hb)
          ∙ coefficient-cell i r c k a b hi hr hc hk ha hb

      -- the last column
      pub built-known : {before''' : List ℕ} → SumsHold set public x before''' sums → (i r c : ℕ) → i < set.o → r < set.l → c < set.l
          → get_or after ((i * (set.l * set.l) + (r * set.l + c)) * (set.o * set.l * set.l + 1) + set.o * set.l * set.l) 0
          ≡ add (vinegar_part set public abq vinegar i r c) (element target (i * (set.l * set.l) + (r * set.l + c)))
      unfolding term_row target_row
      built-known hsums i r c hi hr hc =
          let e : ℕ = r * set.l + c in
          let n : ℕ = set.o * set.l * set.l in
          let past : set.o * set.l * set.l ≤ set.o * set.l * set.l = omega arith in
          let known : ℕ = add (equation_from set abq sums i (e / set.l) (e % set.l)) (element target (i * (set.l * set.l) + e)) in
          let holding : HoldsSums set.l set.v (P11 set public) vinegar set.o sums =
          record { same = λ j a b hj ha hb. same-trans (hsums.same j a b hj ha hb) (sums-scheme set public x vinegar hx j a b ha hb) } in
          built.row i (r * set.l + c) (set.o * set.l * set.l) hi (digits_lt hr hc) (omega arith)
          ∙ ap (λ (w : Bool). add (sum 0 add (terms set) (λ alpha. pick w (term_cell set abq left right sp i alpha (e / set.l) (e % set.l) (n / set.l) (n % set.l)) 0))
          (pick w 0 known))
          (le-ltb (set.o * set.l * set.l) (set.o * set.l * set.l) past)
          ∙ ap (λ m. add m known) (sum_zeros field-ring (terms set) (λ alpha h. refl))
          ∙ zero-add _
          ∙ ap₂ (λ u v. add (equation_from set abq sums i u v) (element target (i * (set.l * set.l) + e))) (digits_div r hc) (digits_mod r hc)
          ∙ ap (λ m. add m (element target (i * (set.l * set.l) + e))) ((vinegar-from-sums bounds abq public positive holding i hi).at r c hr hc)

-- ---- by row number and unknown number

number_is : (l e : ℕ) → e / (l * l) * (l * l) + (e % (l * l) / l * l + e % l) ≡ e
number_is l e =
    ap (λ x. e / (l * l) * (l * l) + (e % (l * l) / l * l + x)) (sym (last-digit e l))
    ∙ ap (λ x. e / (l * l) * (l * l) + x) (div-add-mod' (e % (l * l)) l) ∙ div-add-mod' e (l * l)

-- the digits of a number below o·l·l
record Digits (l o y : ℕ) : Type 0 where
  pub first : y / (l * l) < o
  pub middle : y % (l * l) / l < l
  pub last : y % l < l

digits : (l o y : ℕ) → 0 < l → y < o * (l * l) → Digits l o y
digits l o y p h = record {
  first = (div-lt_iff_lt-mul (square-pos p)).1 h;
  middle = (div-lt_iff_lt-mul p).1 (mod-lt y (square-pos p));
  last = mod-lt y p;
}

-- what a built system holds: rows of N + 1 bytes, N = o·l·l
pub record SystemHolds (set : Set) (public abq private : List ℕ) (vinegar : ℕ → Matrix) (target after : List ℕ) : Type 0 where
  pub coefficient : (y e : ℕ) → y < set.o * (set.l * set.l) → e < set.o * (set.l * set.l)
      → get_or after (y * (set.o * (set.l * set.l) + 1) + e) 0
      ≡ coefficient_at set public abq private vinegar (y / (set.l * set.l)) (y % (set.l * set.l) / set.l) (y % set.l) e
  pub known : (y : ℕ) → y < set.o * (set.l * set.l)
      → get_or after (y * (set.o * (set.l * set.l) + 1) + set.o * (set.l * set.l)) 0 ≡ add (entry_at set.l (vinegar_part set public abq vinegar) y) (element target y)

pub system-holds : (set : Set) → Bounds set → (public abq private : List ℕ) (vinegar : ℕ → Matrix) (x t left right sums sp : List ℕ)
    → Holds set.l (set.l * set.l) set.v set.l x (λ j b. power_times set.l b (vinegar j))
    → Holds set.l (set.o * set.l) set.v set.o t (T12 set private) → Powers set.l sp
    → {before before' before'' before''' : List ℕ} → LeftHolds set public x t before left → RightHolds set public x t before' right → SumsHold set public x before'' sums
    → {target after : List ℕ} → Built set abq target left right sums sp before''' after → SystemHolds set public abq private vinegar target after
unfolding coefficient_at
system-holds set bounds public abq private vinegar x t left right sums sp hx ht hs hleft hright hsums {target} {after} built = record {
  coefficient = λ y e hy he.
      let l : ℕ = set.l in
      let dy = digits set.l set.o y p hy in
      let de = digits set.l set.o e p he in
      let place : y * (set.o * (set.l * set.l) + 1) + e
      ≡ (y / (l * l) * (l * l) + (y % (l * l) / l * l + y % l)) * (set.o * set.l * set.l + 1) + ((e / (l * l) * l + e % (l * l) / l) * l + e % l) =
      ap₂ (λ u v. u * (set.o * (set.l * set.l) + 1) + v) (sym (number_is set.l y)) (sym (number_is set.l e))
      ∙ shape (y / (l * l) * (l * l) + (y % (l * l) / l * l + y % l)) (e / (l * l)) (e % (l * l) / l) (e % l) in
      ap (λ k. get_or after k 0) place
      ∙ built-coefficient set bounds public abq private vinegar x t left right sums sp hx ht hs hleft hright built
      (y / (l * l)) (y % (l * l) / l) (y % l) (e / (l * l)) (e % (l * l) / l) (e % l)
      dy.first dy.middle dy.last de.first de.middle de.last;
  known = λ y hy.
      let l : ℕ = set.l in
      let dy = digits set.l set.o y p hy in
      let place : y * (set.o * (set.l * set.l) + 1) + set.o * (set.l * set.l)
      ≡ (y / (l * l) * (l * l) + (y % (l * l) / l * l + y % l)) * (set.o * set.l * set.l + 1) + set.o * set.l * set.l =
      ap (λ u. u * (set.o * (set.l * set.l) + 1) + set.o * (set.l * set.l)) (sym (number_is set.l y))
      ∙ last-shape (y / (l * l) * (l * l) + (y % (l * l) / l * l + y % l)) in
      ap (λ k. get_or after k 0) place
      ∙ built-known set bounds public abq private vinegar x t left right sums sp hx ht hs hleft hright built hsums
      (y / (l * l)) (y % (l * l) / l) (y % l) dy.first dy.middle dy.last
      ∙ ap (λ n. add (vinegar_part set public abq vinegar (y / (l * l)) (y % (l * l) / l) (y % l)) (element target n)) (number_is set.l y);
}
  where
    p : 0 < set.l
    p = omega (arith, bounds.limits.l-least)

    shape : (u k a b : ℕ) → u * (set.o * (set.l * set.l) + 1) + (k * (set.l * set.l) + (a * set.l + b)) ≡ u * (set.o * set.l * set.l + 1) + ((k * set.l + a) * set.l + b)
    shape u k a b = omega arith

    last-shape : (u : ℕ) → u * (set.o * (set.l * set.l) + 1) + set.o * (set.l * set.l) ≡ u * (set.o * set.l * set.l + 1) + set.o * set.l * set.l
    last-shape u = omega arith
