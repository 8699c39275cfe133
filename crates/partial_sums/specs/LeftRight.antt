-- The rows of the left sums, the right sums and the vinegar's power sums as the code adds them, and the matrices that they are.
-- A table is given by its blocks: x has S^b·X_j at block (j, b), in rows of l·l bytes, and t has T12(u, k), in rows of o·l bytes.
-- Rests on Products, tables' entries and sums, and scheme's streams.
use Rattle.std.specs.Prelude.{◌≡◌, List, ℕ, ◌+◌, ◌*◌, ◌<◌}
use Rattle.std.proofs.Math.Path.{sym, ap, ap₂}
use Rattle.std.proofs.Common.{◌∙◌, zero-add as zero-plus}
use native.Mathlib.Omega.{arith}
use Rattle.std.proofs.Math.Arith.{digits_div, digits_mod}
use Rattle.std.proofs.Math.ListN.{get_or}
use Rattle.algebra.specs.Sum.{sum-cong}
use Rattle.field.specs.Field.{add, mul}
use Rattle.field.specs.FieldRing.{field-ring}
use Rattle.sets.specs.declared.Set.{Set}
use Rattle.matrix.specs.Matrix.{Matrix, add_m, mul_m, transpose}
use Rattle.matrix.specs.MatrixRing.{matrices}
use Rattle.matrix.specs.Same.{same_refl}
use Rattle.scheme.specs.Streams.{block_of, p11_number, p12_number, p21_number, P11, P12, P21}
use Rattle.scheme.specs.Maps.{sum_m}
use Rattle.scheme.specs.Regroup.{transposed-entry}
use Rattle.rows.specs.Tile.{tile, sum-blocks}
use Rattle.tables.specs.Table.{Holds}
use Rattle.tables.specs.Gains.{product_row}
use Rattle.tables.specs.Entries.{product-row-entry}
use Rattle.tables.specs.Sums.{transposed_gain, times_gain, left_gain, rows_of, times-blocks, left-blocks}
use Rattle.partial_sums.specs.Products.{products_row}

-- ---- rows of products, by blocks

own-blocks : (l n a b : ℕ) (s : List ℕ) → Holds l n a b s (tile l n s)
own-blocks l n a b s = record { same = λ j k hj hk. same_refl }

module _ (l : ℕ) {r c : ℕ} (hr : r < l) (hc : c < l) where
  pub products-blocks : (stream : List ℕ) (number count : ℕ) (src : List ℕ) (n u b : ℕ)
      → products_row l stream number count src n (u * l + r) (b * l + c) ≡ sum_m count (λ j. mul_m l (block_of l stream (number + u * count + j)) (tile l n src j b)) r c
  products-blocks stream number count src n u b =
      ap₂ (λ y x. product_row l stream (number + y * count) x count src n 0 (b * l + c)) (digits_div u hr) (digits_mod u hr)
      ∙ product-row-entry (own-blocks l n count (b + 1) src) stream (number + u * count) r count 0 (omega arith) (omega arith) hc
      ∙ ap (λ M. M r c) (sum-cong (matrices l) count (λ j h. ap (λ p. mul_m l (block_of l stream (number + u * count + j)) (tile l n src p b)) (zero-plus j)))

  pub transposed-blocks : (t : List ℕ) (m count : ℕ) (rule : ℕ → ℕ → ℕ) (k b : ℕ) (Y : ℕ → Matrix) → ((j x : ℕ) → j < count → x < l → rule (j * l + x) (b * l + c) ≡ Y j x c)
      → transposed_gain t 0 m (count * l) rule (k * l + r) (b * l + c) ≡ sum_m count (λ j. mul_m l (transpose (tile l m t j k)) (Y j)) r c
  unfolding transposed_gain tile
  transposed-blocks t m count rule k b Y e =
      sum-blocks field-ring count l (λ s. mul (get_or t (0 + (k * l + r) + s * m) 0) (rule s (b * l + c)))
      ∙ sum-cong field-ring count (λ j hj. sum-cong field-ring l (λ x hx.
      let place : 0 + (k * l + r) + (j * l + x) * m ≡ (j * l + x) * m + (k * l + r) = omega arith in
      ap₂ mul (ap (λ p. get_or t p 0) place) (e j x hj hx)))
      ∙ sym (transposed-entry l count (λ j. tile l m t j k) Y r c)

-- ---- the rows as the code adds them

module _ (set : Set) (public x : List ℕ) where
  -- row y of the sums with P11: of block row u, the sum over j of P11(i', u, j) · (S^b·X_j)
  abbrev pub y_row : ℕ → ℕ → ℕ → ℕ
  y_row i = products_row set.l public (p11_number set i 0 0) set.v x (set.l * set.l)

  -- row y of the power sums of matrix index i'
  abbrev pub sums_row : ℕ → ℕ → ℕ → ℕ
  sums_row i = transposed_gain x 0 (set.l * set.l) (set.v * set.l) (y_row i)

  abbrev pub right_row : List ℕ → ℕ → ℕ → ℕ → ℕ
  right_row t i y z =
      add (products_row set.l public (p21_number set i 0 0) set.v x (set.l * set.l) y z)
      (transposed_gain t 0 (set.o * set.l) (set.v * set.l) (y_row i) y z)

  abbrev pub left_row : List ℕ → ℕ → ℕ → ℕ → ℕ
  left_row t i y z =
      add (left_gain set.l set.v x (set.l * set.l) public (p12_number set i 0 0) set.o y z)
      (times_gain (left_gain set.l set.v x (set.l * set.l) public (p11_number set i 0 0) set.v) (set.v * set.l) (rows_of (set.o * set.l) t) y z)

  -- ---- the matrices that they are

  unfoldable pub right_p11_from : (i u b : ℕ) → Matrix
  right_p11_from i u b = sum_m set.v (λ j. mul_m set.l (P11 set public i u j) (tile set.l (set.l * set.l) x j b))

  unfoldable pub left_p11_from : (i u a : ℕ) → Matrix
  left_p11_from i u a = sum_m set.v (λ j. mul_m set.l (transpose (tile set.l (set.l * set.l) x j a)) (P11 set public i j u))

  -- the power sums
  unfoldable pub sums_from : (i a b : ℕ) → Matrix
  sums_from i a b = sum_m set.v (λ j. mul_m set.l (transpose (tile set.l (set.l * set.l) x j a)) (right_p11_from i j b))

  unfoldable pub right_from : (t : List ℕ) (i k b : ℕ) → Matrix
  right_from t i k b =
      add_m (sum_m set.v (λ j. mul_m set.l (P21 set public i k j) (tile set.l (set.l * set.l) x j b)))
      (sum_m set.v (λ u. mul_m set.l (transpose (tile set.l (set.o * set.l) t u k)) (right_p11_from i u b)))

  unfoldable pub left_from : (t : List ℕ) (i k a : ℕ) → Matrix
  left_from t i k a =
      add_m (sum_m set.v (λ j. mul_m set.l (transpose (tile set.l (set.l * set.l) x j a)) (P12 set public i j k)))
      (sum_m set.v (λ u. mul_m set.l (left_p11_from i u a) (tile set.l (set.o * set.l) t u k)))

  module _ (i : ℕ) {r c : ℕ} (hr : r < set.l) (hc : c < set.l) where
    y-blocks : (u b : ℕ) → y_row i (u * set.l + r) (b * set.l + c) ≡ right_p11_from i u b r c
    unfolding right_p11_from P11
    y-blocks u b =
        products-blocks set.l hr hc public (p11_number set i 0 0) set.v x (set.l * set.l) u b
        ∙ ap (λ M. M r c) (sum-cong (matrices set.l) set.v (λ j h.
        let number : p11_number set i 0 0 + u * set.v + j ≡ p11_number set i u j = omega arith in
        ap (λ p. mul_m set.l (block_of set.l public p) (tile set.l (set.l * set.l) x j b)) number))

    z-blocks : (u a : ℕ) → left_gain set.l set.v x (set.l * set.l) public (p11_number set i 0 0) set.v (a * set.l + r) (u * set.l + c) ≡ left_p11_from i u a r c
    unfolding left_p11_from P11
    z-blocks u a =
        left-blocks set.l hr hc set.v x (set.l * set.l) public (p11_number set i 0 0) set.v a u
        ∙ ap (λ M. M r c) (sum-cong (matrices set.l) set.v (λ j h.
        let number : p11_number set i 0 0 + j * set.v + u ≡ p11_number set i j u = omega arith in
        ap (λ p. mul_m set.l (transpose (tile set.l (set.l * set.l) x j a)) (block_of set.l public p)) number))

  module _ (i : ℕ) {r c : ℕ} (hr : r < set.l) (hc : c < set.l) where
    pub sums-blocks : (a b : ℕ) → sums_row i (a * set.l + r) (b * set.l + c) ≡ sums_from i a b r c
    unfolding sums_from
    sums-blocks a b = transposed-blocks set.l hr hc x (set.l * set.l) set.v (y_row i) a b (λ j. right_p11_from i j b) (λ j s hj hs. y-blocks i hs hc j b)

    pub right-blocks : (t : List ℕ) (k b : ℕ) → right_row t i (k * set.l + r) (b * set.l + c) ≡ right_from t i k b r c
    unfolding right_from add_m P21
    right-blocks t k b =
        ap₂ add
        (products-blocks set.l hr hc public (p21_number set i 0 0) set.v x (set.l * set.l) k b
        ∙ ap (λ M. M r c) (sum-cong (matrices set.l) set.v (λ j h.
        let number : p21_number set i 0 0 + k * set.v + j ≡ p21_number set i k j = omega arith in
        ap (λ p. mul_m set.l (block_of set.l public p) (tile set.l (set.l * set.l) x j b)) number)))
        (transposed-blocks set.l hr hc t (set.o * set.l) set.v (y_row i) k b (λ u. right_p11_from i u b) (λ u s hu hs. y-blocks i hs hc u b))

    pub left-row-blocks : (t : List ℕ) (a k : ℕ) → left_row t i (a * set.l + r) (k * set.l + c) ≡ left_from t i k a r c
    unfolding left_from add_m P12
    left-row-blocks t a k =
        ap₂ add
        (left-blocks set.l hr hc set.v x (set.l * set.l) public (p12_number set i 0 0) set.o a k
        ∙ ap (λ M. M r c) (sum-cong (matrices set.l) set.v (λ j h.
        let number : p12_number set i 0 0 + j * set.o + k ≡ p12_number set i j k = omega arith in
        ap (λ p. mul_m set.l (transpose (tile set.l (set.l * set.l) x j a)) (block_of set.l public p)) number)))
        (times-blocks set.l hr hc (left_gain set.l set.v x (set.l * set.l) public (p11_number set i 0 0) set.v) set.v (set.o * set.l) t a k
        (λ u. left_p11_from i u a) (λ u s hu hs. z-blocks i hr hs u a))
