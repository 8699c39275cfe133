-- The rows of the system as the code adds them: term by term, then the last column; over the tables of the left sums, the right sums and the power sums.
-- Rests on Sides, and on terms' equation from a table of power sums.
use Rattle.std.specs.Prelude.{◌≡◌, refl, List, ℕ, ◌+◌, ◌*◌, ◌/◌, ◌%◌, ◌<◌, ◌≤◌, ltb, length}
use Rattle.std.proofs.Math.Path.{sym, ap, ap₂}
use Rattle.std.proofs.Common.{◌∙◌, mul-le-mul, mul-le-mul_right, div-lt_iff_lt-mul, lt-ltb, le-ltb}
use Rattle.std.proofs.Math.Nat.{mod-lt}
use Rattle.std.proofs.Math.Decide.{dec_lt}
use native.Mathlib.Omega.{arith}
use Rattle.std.proofs.Math.Arith.{digits_lt, digits_div, digits_mod}
use Rattle.std.proofs.Math.ListN.{get_or}
use Rattle.ground.specs.Pick.{pick}
use Rattle.ground.specs.Place.{row_fits}
use Rattle.algebra.specs.Sum.{sum, sum-cong, sum-add, sum_zeros}
use Rattle.field.specs.Field.{add, mul}
use Rattle.field.specs.Laws.{add-zero, one-mul, mul-lt}
use Rattle.field.specs.FieldRing.{field-ring, sum_lt}
use Rattle.packing.specs.Packing.{element}
use Rattle.rows.specs.Zero.{zeros, length-zeros}
use Rattle.rows.specs.Plus.{Plus, plus-then}
use Rattle.rows.specs.PlusRows.{PlusRows, rows-cong}
use Rattle.sets.specs.declared.Set.{Set}
use Rattle.sets.specs.Sets.{terms, target_bytes, most_l, most_row}
use Rattle.sets.specs.Bounds.{Bounds}
use Rattle.matrix.specs.Matrix.{Matrix, transpose}
use Rattle.matrix.specs.Same.{same_refl, same-mul, mul_m-lt, sum_m-lt}
use Rattle.matrix.specs.Block.{view, block, block_same, holds, cell, cell_at, get_or-block, stride}
use Rattle.scheme.specs.Streams.{A, B}
use Rattle.scheme.specs.Maps.{matrix_index}
use Rattle.scheme.specs.Regroup.{q1_of, q2_of}
use Rattle.matrix.specs.Promises.{coefficients}
use Rattle.streams.specs.declared.Term.{Term}
use Rattle.streams.specs.TermOf.{TermOf, coefficient-in}
use Rattle.terms.specs.Terms.{equation_from, term_from}
use Rattle.tables.specs.Table.{cleared}
use Rattle.tables.specs.Sums.{HasRows, zero-rows-from}
use Rattle.system.specs.Sides.{Sides, side_of, combined_from, combined-cong, outer_row, cell_gain, row_gain, products_room}

module _ (set : Set) (abq left right sp : List ℕ) where
  -- A·L·Q2 of oil index k
  abbrev pub left_side : (i alpha k : ℕ) → Matrix
  left_side i alpha =
      side_of set.l (A set abq i alpha) (q1_of set abq i alpha) left (set.o * set.l) (matrix_index set i alpha * set.l) 1 0
      (combined_from set.l (q2_of set abq i alpha) sp set.l 0 0 1 0)

  -- Q1·R·B of oil index k
  abbrev pub right_side : (i alpha k : ℕ) → Matrix
  right_side i alpha =
      side_of set.l (combined_from set.l (q1_of set abq i alpha) sp set.l 0 0 1 0) (q2_of set abq i alpha) right (set.l * set.l) (matrix_index set i alpha * set.o) 0 1
      (B set abq i alpha)

  -- what term alpha adds to the coefficient of unknown (k; y, b) in entry (r, c), with q = k·l + y
  unfoldable pub term_cell : (i alpha r c q b : ℕ) → ℕ
  term_cell i alpha r c q b =
      add (mul (left_side i alpha (q / set.l) r (q % set.l)) (B set abq i alpha b c)) (mul (right_side i alpha (q / set.l) (q % set.l) c) (A set abq i alpha r b))

  -- what term alpha adds to row z = (k·l + r)·l + y of the left products: entry (r, y) of A·L·Q2 times B transposed
  unfoldable pub left_term : (i alpha z e : ℕ) → ℕ
  left_term i alpha z e = mul (left_side i alpha (z / set.l / set.l) (z / set.l % set.l) (z % set.l)) (cell set.l (transpose (B set abq i alpha)) e)

  -- and to row z = (k·l + y)·l + c of the right products: entry (y, c) of Q1·R·B times A
  unfoldable pub right_term : (i alpha z e : ℕ) → ℕ
  right_term i alpha z e = mul (right_side i alpha (z / set.l / set.l) (z / set.l % set.l) (z % set.l)) (cell set.l (A set abq i alpha) e)

  -- row e = r·l + c of equation i, column z: the unknowns, and nothing in the last column
  unfoldable pub term_row : (i alpha e z : ℕ) → ℕ
  term_row i alpha e z = pick (ltb z (set.o * set.l * set.l)) (term_cell i alpha (e / set.l) (e % set.l) (z / set.l) (z % set.l)) 0

  -- the sum over all terms
  abbrev pub equation_row : (i e z : ℕ) → ℕ
  equation_row i e z = sum 0 add (terms set) (λ alpha. term_row i alpha e z)

-- the last column
unfoldable pub target_row : (set : Set) (abq sums target : List ℕ) (i e z : ℕ) → ℕ
target_row set abq sums target i e z =
    pick (ltb z (set.o * set.l * set.l)) 0 (add (equation_from set abq sums i (e / set.l) (e % set.l)) (element target (i * (set.l * set.l) + e)))

-- row e of equation i
abbrev pub system_row : (set : Set) (abq target left right sums sp : List ℕ) (i e z : ℕ) → ℕ
system_row set abq target left right sums sp i e z = add (equation_row set abq left right sp i e z) (target_row set abq sums target i e z)

-- the system, row by row; the buffer keeps its length, and is zero behind the system
pub record Built (set : Set) (abq target left right sums sp before after : List ℕ) : Type 0 where
  pub long : length after ≡ length before
  pub row : (i e z : ℕ) → i < set.o → e < set.l * set.l → z < set.o * set.l * set.l + 1
      → get_or after ((i * (set.l * set.l) + e) * (set.o * set.l * set.l + 1) + z) 0 ≡ system_row set abq target left right sums sp i e z
  pub beyond : (k : ℕ) → set.o * (set.l * set.l) * (set.o * set.l * set.l + 1) ≤ k → get_or after k 0 ≡ 0

-- ---- what the code asks of its tables

-- the left sums, the right sums and the powers of S fit into so many bytes
pub record TableRooms (set : Set) (left right sp : ℕ) : Type 0 where
  pub left-fits : set.o * (set.l * set.l) * (set.o * set.l) ≤ left
  pub right-fits : set.o * (set.o * set.l) * (set.l * set.l) ≤ right
  pub powers-fit : set.l * set.l * set.l ≤ sp

-- and the products of an equation's terms into these
pub record ProductRooms (set : Set) (lefts rights : ℕ) : Type 0 where
  pub lefts-fit : set.o * set.l * set.l * (set.l * stride) ≤ lefts
  pub rights-fit : set.o * set.l * set.l * (set.l * stride) ≤ rights

-- what all terms of equation i add to the products, and the sum of their values
pub record Gathered (set : Set) (abq left right sums sp : List ℕ) (i : ℕ) (lefts rights lefts' rights' known : List ℕ) : Type 0 where
  pub by_left : PlusRows lefts 0 (set.o * set.l * set.l) (set.l * stride) (λ z e. sum 0 add (terms set) (λ alpha. left_term set abq left right sp i alpha z e)) lefts'
  pub by_right : PlusRows rights 0 (set.o * set.l * set.l) (set.l * stride) (λ z e. sum 0 add (terms set) (λ alpha. right_term set abq left right sp i alpha z e)) rights'
  pub value : known ≡ block set.l (equation_from set abq sums i)

-- ---- one term

-- the products made of what was read are the term's
module _ {set : Set} (bounds : Bounds set) {i alpha : ℕ} (abq left right sp : List ℕ) {term : Term} (is : TermOf set abq i alpha term) {q1 q2 : List ℕ}
    (q1-is : q1 ≡ block set.l (combined_from set.l (coefficients term.q1) sp set.l 0 0 1 0))
    (q2-is : q2 ≡ block set.l (combined_from set.l (coefficients term.q2) sp set.l 0 0 1 0)) where
  positive : 0 < set.l
  positive = omega (arith, bounds.limits.l-least)

  small : set.l ≤ stride
  small = omega (arith, bounds.limits.l-most)

  pub left-products : {lefts bt d t : List ℕ} → bt ≡ block set.l (transpose (view term.b))
      → Sides set.l set.o (side_of set.l (view term.a) (coefficients term.q1) left (set.o * set.l) (term.index * set.l) 1 0 (view q2)) lefts
      → PlusRows d 0 (set.o * set.l * set.l) (set.l * stride) (outer_row set.l lefts bt) t
      → PlusRows d 0 (set.o * set.l * set.l) (set.l * stride) (left_term set abq left right sp i alpha) t
  unfolding outer_row left_term side_of transpose
  left-products {bt = bt} bt-is h p = rows-cong (λ z e hz he.
      let q = (div-lt_iff_lt-mul positive).1 hz in
      let k = (div-lt_iff_lt-mul positive).1 q in
      let r = mod-lt (z / set.l) positive in
      let y = mod-lt z positive in
      let whole : bt ≡ block set.l (transpose (B set abq i alpha)) = bt-is ∙ block_same (record { at = λ x w hx hw. (holds small is.b).at w x hw hx }) in
      ap₂ mul
      (h.at (z / set.l / set.l) (z / set.l % set.l) (z % set.l) k r y
      ∙ (same-mul (holds small is.a) (same-mul same_refl (holds small q2-is))).at (z / set.l % set.l) (z % set.l) r y
      ∙ rw (
        combined-cong set.l left (set.o * set.l) (term.index * set.l + z / set.l / set.l * 0) (z / set.l / set.l * 1) 1 0 (coefficient-in is.q1),
        combined-cong set.l sp set.l 0 0 1 0 (coefficient-in is.q2),
        is.index,
      ))
      (ap (λ m. get_or m e 0) whole ∙ get_or-block set.l (transpose (B set abq i alpha)) e (omega (arith, he, small)))) p

  pub right-products : {rights d t : List ℕ}
      → Sides set.l set.o (side_of set.l (view q1) (coefficients term.q2) right (set.l * set.l) (term.index * set.o) 0 1 (view term.b)) rights
      → PlusRows d 0 (set.o * set.l * set.l) (set.l * stride) (outer_row set.l rights term.a) t
      → PlusRows d 0 (set.o * set.l * set.l) (set.l * stride) (right_term set abq left right sp i alpha) t
  unfolding outer_row right_term side_of
  right-products h p = rows-cong (λ z e hz he.
      let q = (div-lt_iff_lt-mul positive).1 hz in
      let k = (div-lt_iff_lt-mul positive).1 q in
      let y = mod-lt (z / set.l) positive in
      let c = mod-lt z positive in
      ap₂ mul
      (h.at (z / set.l / set.l) (z / set.l % set.l) (z % set.l) k y c
      ∙ (same-mul (holds small q1-is) (same-mul same_refl (holds small is.b))).at (z / set.l % set.l) (z % set.l) y c
      ∙ rw (
        combined-cong set.l right (set.l * set.l) (term.index * set.o + z / set.l / set.l * 1) (z / set.l / set.l * 0) 0 1 (coefficient-in is.q2),
        combined-cong set.l sp set.l 0 0 1 0 (coefficient-in is.q1),
        is.index,
      ))
      (ap (λ m. get_or m e 0) is.a ∙ get_or-block set.l (A set abq i alpha) e (omega (arith, he, small)))) p

-- ---- one equation

-- the rows made of the products of all terms are the equation's
module _ {set : Set} (bounds : Bounds set) (abq left right sp : List ℕ) (i : ℕ) {lefts rights : List ℕ}
    (left-rows : HasRows (set.o * set.l * set.l) (set.l * stride) (λ z e. sum 0 add (terms set) (λ alpha. left_term set abq left right sp i alpha z e)) lefts)
    (right-rows : HasRows (set.o * set.l * set.l) (set.l * stride) (λ z e. sum 0 add (terms set) (λ alpha. right_term set abq left right sp i alpha z e)) rights) where
  some : 0 < set.l
  some = omega (arith, bounds.limits.l-least)

  five : set.l ≤ stride
  five = omega (arith, bounds.limits.l-most)

  left-cell : (r c k y b : ℕ) → r < set.l → c < set.l → k < set.o → y < set.l → b < set.l
      → mul 1 (get_or lefts (((k * set.l + r) * set.l + y) * (set.l * stride) + c * stride + b) 0)
      ≡ sum 0 add (terms set) (λ alpha. mul (left_side set abq left right sp i alpha k r y) (B set abq i alpha b c))
  unfolding left_term transpose
  left-cell r c k y b hr hc hk hy hb =
      let place : ((k * set.l + r) * set.l + y) * (set.l * stride) + c * stride + b ≡ ((k * set.l + r) * set.l + y) * (set.l * stride) + (c * stride + b) = omega arith in
      let row : (k * set.l + r) * set.l + y < set.o * set.l * set.l = digits_lt (digits_lt hk hr) hy in
      let byte : c * stride + b < set.l * stride = omega arith in
      ap (λ x. mul 1 (get_or lefts x 0)) place
      ∙ ap (mul 1) (left-rows.at ((k * set.l + r) * set.l + y) (c * stride + b) row byte)
      ∙ one-mul _ (sum_lt (terms set) (λ alpha h. mul-lt _ _))
      ∙ sum-cong field-ring (terms set) (λ alpha h.
      ap₂ mul
      (ap₂ (λ u w. left_side set abq left right sp i alpha (u / set.l) (u % set.l) w) (digits_div (k * set.l + r) hy) (digits_mod (k * set.l + r) hy)
      ∙ ap₂ (λ u w. left_side set abq left right sp i alpha u w y) (digits_div k hr) (digits_mod k hr))
      (cell_at set.l (transpose (B set abq i alpha)) c b five hc hb))

  right-cell : (r c q b : ℕ) → r < set.l → c < set.l → q < set.o * set.l → b < set.l
      → mul 1 (get_or rights ((q * set.l + c) * (set.l * stride) + r * stride + b) 0)
      ≡ sum 0 add (terms set) (λ alpha. mul (right_side set abq left right sp i alpha (q / set.l) (q % set.l) c) (A set abq i alpha r b))
  unfolding right_term
  right-cell r c q b hr hc hq hb =
      let place : (q * set.l + c) * (set.l * stride) + r * stride + b ≡ (q * set.l + c) * (set.l * stride) + (r * stride + b) = omega arith in
      let row : q * set.l + c < set.o * set.l * set.l = digits_lt hq hc in
      let byte : r * stride + b < set.l * stride = omega arith in
      ap (λ x. mul 1 (get_or rights x 0)) place
      ∙ ap (mul 1) (right-rows.at (q * set.l + c) (r * stride + b) row byte)
      ∙ one-mul _ (sum_lt (terms set) (λ alpha h. mul-lt _ _))
      ∙ sum-cong field-ring (terms set) (λ alpha h.
      ap₂ mul
      (ap₂ (λ u w. right_side set abq left right sp i alpha (u / set.l) (u % set.l) w) (digits_div q hc) (digits_mod q hc))
      (cell_at set.l (A set abq i alpha) r b five hr hb))

  pub equation-rows : {d t : List ℕ} {at : ℕ} → PlusRows d at (set.l * set.l) (set.o * set.l * set.l + 1) (row_gain set.l set.o lefts rights) t
      → PlusRows d at (set.l * set.l) (set.o * set.l * set.l + 1) (equation_row set abq left right sp i) t
  unfolding row_gain cell_gain term_row term_cell
  equation-rows p = rows-cong (λ e z he hz. by e z he hz) p
    where
      by : (e z : ℕ) → e < set.l * set.l → z < set.o * set.l * set.l + 1 → row_gain set.l set.o lefts rights e z ≡ equation_row set abq left right sp i e z
      by e z he hz =
          elim (dec_lt z (set.o * set.l * set.l)) [
            | yes h ↦
                let r = (div-lt_iff_lt-mul some).1 he in
                let c = mod-lt e some in
                let b = mod-lt z some in
                let q = (div-lt_iff_lt-mul some).1 h in
                let k = (div-lt_iff_lt-mul some).1 q in
                let y = mod-lt (z / set.l) some in
                rw (lt-ltb z (set.o * set.l * set.l) h)
                (ap₂ add
                (left-cell (e / set.l) (e % set.l) (z / set.l / set.l) (z / set.l % set.l) (z % set.l) r c k y b)
                (right-cell (e / set.l) (e % set.l) (z / set.l) (z % set.l) r c q b)
                ∙ sym (sum-add field-ring (terms set) _ _))
            | no h ↦
                let past : set.o * set.l * set.l ≤ z = omega arith in
                rw (le-ltb z (set.o * set.l * set.l) past) (sym (sum_zeros field-ring (terms set) (λ alpha m. refl)))
          ]

-- ---- the last column

widen-last : (n : ℕ) {d t : List ℕ} {at place : ℕ} {f : ℕ → ℕ} → place ≡ at + n → Plus d place 1 f t → Plus d at (n + 1) (λ c. pick (ltb c n) 0 (f 0)) t
widen-last n {d} {t} {at} {place} {f} e p = record {
  long = p.long;
  inside = λ k h.
      elim (dec_lt k n) [
        | yes b ↦ p.low (at + k) (omega arith) ∙ sym (rw (lt-ltb k n b) (add-zero _))
        | no b ↦
            let past : n ≤ k = omega arith in
            let here : at + k ≡ place + 0 = omega arith in
            ap (λ i. get_or t i 0) here ∙ p.inside 0 (omega arith) ∙ ap (λ i. add (get_or d i 0) (f 0)) (sym here) ∙ rw (le-ltb k n past)
      ];
  low = λ k h. p.low k (omega arith);
  high = λ k h. p.high k (omega arith);
}

-- the last byte of row e as the code adds it, from the block of the vinegar part
unfoldable pub target_added : (l n total : ℕ) (known target : List ℕ) (i e z : ℕ) → ℕ
target_added l n total known target i e z = pick (ltb z n) 0 (add (mul 1 (get_or known (e / l * stride + e % l + 0) 0)) (element target (i * total + e + 0)))

pub target-step : (l n total : ℕ) (known target : List ℕ) (i e : ℕ) {d t u : List ℕ} {at place : ℕ} → place ≡ at + n
    → Plus d place 1 (λ c. mul 1 (get_or known (e / l * stride + e % l + c) 0)) t → Plus t place 1 (λ c. element target (i * total + e + c)) u
    → Plus d at (n + 1) (target_added l n total known target i e) u
unfolding target_added
target-step l n total known target i e place_is p q = widen-last n place_is (plus-then p q)

pub target-rows : {set : Set} → Bounds set → (abq sums target : List ℕ) (i : ℕ) {known d t : List ℕ} {at : ℕ} → known ≡ block set.l (equation_from set abq sums i)
    → PlusRows d at (set.l * set.l) (set.o * set.l * set.l + 1) (target_added set.l (set.o * set.l * set.l) (set.l * set.l) known target i) t
    → PlusRows d at (set.l * set.l) (set.o * set.l * set.l + 1) (target_row set abq sums target i) t
unfolding target_added target_row view term_from
target-rows {set} b abq sums target i {known} is p = rows-cong (λ e z he hz. ap (λ x. pick (ltb z (set.o * set.l * set.l)) 0 x) (value e he)) p
  where
    positive : 0 < set.l
    positive = omega (arith, b.limits.l-least)

    small : set.l ≤ stride
    small = omega (arith, b.limits.l-most)

    value : (e : ℕ) → e < set.l * set.l → add (mul 1 (get_or known (e / set.l * stride + e % set.l + 0) 0)) (element target (i * (set.l * set.l) + e + 0))
        ≡ add (equation_from set abq sums i (e / set.l) (e % set.l)) (element target (i * (set.l * set.l) + e))
    value e he =
        let here : e / set.l * stride + e % set.l + 0 ≡ e / set.l * stride + e % set.l = omega arith in
        let there : i * (set.l * set.l) + e + 0 ≡ i * (set.l * set.l) + e = omega arith in
        ap₂ add
        (ap (λ j. mul 1 (get_or known j 0)) here
        ∙ ap (mul 1) ((holds small is).at (e / set.l) (e % set.l) ((div-lt_iff_lt-mul positive).1 he) (mod-lt e positive))
        ∙ one-mul _ (sum_m-lt (terms set) _ (e / set.l) (e % set.l) (λ alpha h. mul_m-lt set.l _ _ (e / set.l) (e % set.l))))
        (ap (element target) there)

pub target-within : {set : Set} {n : ℕ} → Bounds set → n ≡ target_bytes set → set.o * (set.l * set.l) ≤ 2 * n
unfolding target_bytes
target-within b e = omega (arith, b.counts.target)

-- ---- all equations

pub built : (set : Set) (abq target left right sums sp before : List ℕ) {d after : List ℕ} → d ≡ zeros (length before)
    → PlusRows d 0 (set.o * (set.l * set.l)) (set.o * set.l * set.l + 1)
    (λ y. system_row set abq target left right sums sp (y / (set.l * set.l)) (y % (set.l * set.l))) after
    → Built set abq target left right sums sp before after
built set abq target left right sums sp before {after = after} z p = record {
  long = p.long ∙ ap length z ∙ length-zeros (length before);
  row = λ i e c hi he hc.
      let all : HasRows (set.o * (set.l * set.l)) (set.o * set.l * set.l + 1)
      (λ y. system_row set abq target left right sums sp (y / (set.l * set.l)) (y % (set.l * set.l))) after = zero-rows-from before z p in
      let here = all.at (i * (set.l * set.l) + e) c (digits_lt hi he) hc in
      here ∙ ap₂ (λ j x. system_row set abq target left right sums sp j x c) (digits_div i he) (digits_mod i he);
  beyond = λ k h. p.high k (omega arith) ∙ cleared before z k;
}

-- ---- places

-- the products of an equation's terms
pub products-fit : {set : Set} → Bounds set → set.o * set.l * set.l * (set.l * stride) ≤ products_room
products-fit {set} b =
    let row : set.o * set.l * set.l ≤ most_row = omega (arith, b.limits.row) in
    let width : set.l * stride ≤ most_l * stride = omega (arith, b.limits.l-most) in
    omega (arith, mul-le-mul row width)

pub record TermPlaces (set : Set) (index : ℕ) : Type 0 where
  pub left : (row k x : ℕ) → row ≤ index * set.l → k < set.o → x < set.l
      → (row + k * 0 + x * 1 + 1) * set.l * (set.o * set.l) ≤ set.o * (set.l * set.l) * (set.o * set.l)
  pub left-column : (k x : ℕ) → k < set.o → x < set.l → (k * 1 + x * 0 + 1) * set.l ≤ set.o * set.l
  pub right : (row k x : ℕ) → row ≤ index * set.o → k < set.o → x < set.l
      → (row + k * 1 + x * 0 + 1) * set.l * (set.l * set.l) ≤ set.o * (set.o * set.l) * (set.l * set.l)
  pub right-column : (k x : ℕ) → k < set.o → x < set.l → (k * 0 + x * 1 + 1) * set.l ≤ set.l * set.l
  pub powers : (x : ℕ) → x < set.l → (0 + x * 1 + 1) * set.l * set.l ≤ set.l * set.l * set.l
  pub power-column : (x : ℕ) → x < set.l → (0 + x * 0 + 1) * set.l ≤ set.l

pub term-places : (set : Set) (index : ℕ) → index < set.o → TermPlaces set index
term-places set index h = record {
  left = λ row k x hr hk hx.
      let rows : row + x + 1 ≤ set.o * set.l = omega (arith, digits_lt h hx) in
      omega (arith, mul-le-mul_right (set.l * (set.o * set.l)) rows);
  left-column = λ k x hk hx. omega (arith, row_fits set.l hk);
  right = λ row k x hr hk hx.
      let rows : row + k + 1 ≤ set.o * set.o = omega (arith, digits_lt h hk) in
      omega (arith, mul-le-mul_right (set.l * (set.l * set.l)) rows);
  right-column = λ k x hk hx. omega (arith, row_fits set.l hx);
  powers = λ x hx. omega (arith, mul-le-mul_right set.l (row_fits set.l hx));
  power-column = λ x hx. omega arith;
}
