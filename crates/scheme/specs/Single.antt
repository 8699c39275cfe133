-- Streams with a single element that is not 0, and the matrices in them: a corner, and its products.
-- Rests on Streams, Key and on packing's laws.
use Rattle.std.specs.Prelude.{◌≡◌, refl, Bool, true, false, List, ℕ, ◌+◌, ◌*◌, ◌/◌, ◌%◌, ◌<◌, eqb, length}
use Rattle.std.proofs.Common.{sym, ap, ◌∙◌, mul-pos, arith, eq-eqb, ne_eqb}
use Rattle.std.proofs.Math.Decide.{dec_lt, ℕ_discrete}
use Rattle.std.proofs.Math.Arith.{digits_div, digits_mod, digits_lt}
use Rattle.std.proofs.Math.ListN.{get_or-eq_default}
use Rattle.ground.specs.Pick.{pick}
use Rattle.ground.specs.Fill.{tab, length-tab, get_or-tab}
use Rattle.algebra.specs.Sum.{sum_zeros, sum_one}
use Rattle.field.specs.Field.{mul}
use Rattle.field.specs.Laws as Field
use Rattle.field.specs.FieldRing.{field-ring}
use Rattle.packing.specs.Packing.{element, packed_bytes, packed}
use Rattle.packing.proofs.Laws.{element-packed, length-packed}
use Rattle.matrix.specs.Matrix.{Matrix, zero_m, mul_m, transpose}
use Rattle.matrix.specs.MatrixRing.{entries}
use Rattle.matrix.specs.Same.{Same}
use Rattle.scheme.specs.Streams.{block_of}
use Rattle.scheme.specs.Key.{tab-in-field}

-- ---- streams with a single element

-- the matrix with x in its first entry, and zeros
abbrev pub corner : ℕ → Matrix
corner x r c = pick (eqb (r + c) 0) x 0

pub corner-zero : corner 0 ≡ zero_m
corner-zero = entries (λ r c. elim (eqb (r + c) 0) as (λ b. ◌≡◌ {A = ℕ} (pick b 0 0) 0) [ true ↦ refl | false ↦ refl ])

-- the stream of `count` elements that are 0, but for element number `at`, which is x
unfoldable pub single : (count at x : ℕ) → List ℕ
single count at x = packed (tab count (λ e. pick (eqb e at) x 0))

pub length-single : (count at x : ℕ) → length (single count at x) ≡ packed_bytes count
unfolding single
length-single count at x = length-packed _ ∙ ap packed_bytes (length-tab count _)

module _ (count at x : ℕ) (inside : at < count) (small : x < 16) where
  single-small : (e : ℕ) → pick (eqb e at) x 0 < 16
  single-small e = elim (eqb e at) as (λ b. pick b x 0 < 16) [ true ↦ small | false ↦ omega arith ]

  pub single-element : (e : ℕ) → element (single count at x) e ≡ pick (eqb e at) x 0
  unfolding single
  single-element e =
      element-packed (tab count (λ e. pick (eqb e at) x 0)) (tab-in-field count _ single-small) e
      ∙ elim (dec_lt e count) [
        | yes h ↦ get_or-tab count _ e h
        | no h ↦
            get_or-eq_default (tab count (λ e. pick (eqb e at) x 0)) 0 (omega (arith, length-tab count (λ e. pick (eqb e at) x 0)))
            ∙ rw (ne_eqb e at (λ p. omega arith))
      ]

-- the place where block number b begins is in no other block, and no other entry's
same_place : {l b b' r c : ℕ} → r < l → c < l → b' * (l * l) + (r * l + c) ≡ b * (l * l) → (b' ≡ b) × (r + c ≡ 0)
same_place {l} {b} {b'} {r} {c} hr hc e =
    let y : r * l + c < l * l = digits_lt hr hc in
    let start : 0 < l * l = omega arith in
    let e' : b' * (l * l) + (r * l + c) ≡ b * (l * l) + 0 = omega arith in
    let none : r * l + c ≡ 0 = sym (digits_mod b' y) ∙ ap (λ z. z % (l * l)) e' ∙ digits_mod b start in (
      sym (digits_div b' y) ∙ ap (λ z. z / (l * l)) e' ∙ digits_div b start,
      elim (dec_lt 0 r) [ yes h ↦ omega (arith, mul-pos {m = r} {n = l} h (omega arith)) | no h ↦ omega arith ],
    )

-- the element is the first of block number b
pub single-block : (l count b x : ℕ) → b * (l * l) < count → x < 16 → (b' : ℕ) → Same l (block_of l (single count (b * (l * l)) x) b') (corner (pick (eqb b' b) x 0))
unfolding block_of
single-block l count b x inside small b' =
    record { at = λ r c hr hc. single-element count (b * (l * l)) x inside small _ ∙ entry r c hr hc (ℕ_discrete (r + c) 0) (ℕ_discrete b' b) }
  where
    entry : (r c : ℕ) → r < l → c < l → Dec (r + c ≡ 0) → Dec (b' ≡ b)
        → pick (eqb (b' * (l * l) + (r * l + c)) (b * (l * l))) x 0 ≡ pick (eqb (r + c) 0) (pick (eqb b' b) x 0) 0
    entry r c hr hc (yes p) (yes q) =
        let row : r * l ≡ 0 * l = ap (λ z. z * l) (omega arith) in
        let e : b' * (l * l) + (r * l + c) ≡ b * (l * l) = omega (arith, ap (λ z. z * (l * l)) q) in
        rw (eq-eqb _ _ e, eq-eqb (r + c) 0 p, eq-eqb b' b q)
    entry r c hr hc (yes p) (no q) = rw (ne_eqb _ _ (λ e. q (same_place hr hc e).0), eq-eqb (r + c) 0 p, ne_eqb b' b q)
    entry r c hr hc (no p) d = rw (ne_eqb _ _ (λ e. p (same_place hr hc e).1), ne_eqb (r + c) 0 p)

-- ---- a corner in a product

mul-unit : (a b : ℕ) → mul a (mul 1 b) ≡ mul a b
mul-unit a b = ap (mul a) (sym (Field.mul_mod_right 1 b) ∙ Field.one-mul (b % 16) (omega arith)) ∙ Field.mul_mod_right a b

-- a corner between two matrices picks the first column of one and the first row of the other
pub corner-between : (l : ℕ) → 0 < l → (M N : Matrix) (r c : ℕ) → mul_m l M (mul_m l (corner 1) N) r c ≡ mul (M r 0) (N 0 c)
unfolding mul_m
corner-between l some M N r c =
    sum_one field-ring l 0 _ some
    (λ k hk d.
    ap (mul (M r k)) (sum_zeros field-ring l (λ j hj. rw (ne_eqb (k + j) 0 (λ e. d (omega arith))) (Field.zero-mul (N j c)))) ∙ Field.mul-zero (M r k))
    ∙ ap (mul (M r 0)) (sum_one field-ring l 0 _ some (λ j hj d. rw (ne_eqb (0 + j) 0 (λ e. d (omega arith))) (Field.zero-mul (N j c))))
    ∙ mul-unit (M r 0) (N 0 c)

pub corner-symmetric : (x : ℕ) → transpose (corner x) ≡ corner x
unfolding transpose
corner-symmetric x = entries (λ r c. let e : c + r ≡ r + c = omega arith in rw e)

pub corner-pick : (b : Bool) (x : ℕ) → corner (pick b x 0) ≡ pick b (corner x) zero_m
corner-pick true x = refl
corner-pick false x = corner-zero
