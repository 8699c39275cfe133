-- A block row of P(i) times a table: the rows that are added are the sum over k of P(i, j, k) times the table's block rows, the vinegar part and the oil part.
-- Rests on tables' rows of products and scheme's four parts.
use Rattle.std.specs.Prelude.{◌≡◌, List, ℕ, ◌+◌, ◌-◌, ◌*◌, ◌<◌, get_or}
use Rattle.std.proofs.Math.Path.{sym, ap, ap₂}
use Rattle.std.proofs.Common.{subst, ◌∙◌, zero-add as zero-plus}
use native.Mathlib.Omega.{arith}
use Rattle.algebra.specs.Sum.{sum-cong, sum-split}
use Rattle.field.specs.Field.{add}
use Rattle.sets.specs.declared.Set.{Set}
use Rattle.sets.specs.Sets.{variables}
use Rattle.matrix.specs.Matrix.{Matrix, add_m, mul_m}
use Rattle.matrix.specs.MatrixRing.{matrices}
use Rattle.matrix.specs.Same.{same_refl}
use Rattle.scheme.specs.Streams.{block_of, p11_number, p12_number, p21_number, p22_number, P11, P12, P21, P22}
use Rattle.scheme.specs.Maps.{sum_m, PWith}
use Rattle.scheme.specs.Parts.{parts-11, parts-12, parts-21, parts-22}
use Rattle.rows.specs.PlusRows.{PlusRows}
use Rattle.rows.specs.Tile.{tile}
use Rattle.tables.specs.Table.{Holds, holds_rows}
use Rattle.tables.specs.Gains.{product_row}
use Rattle.tables.specs.Entries.{product-row-entry}

-- row r of v blocks of one stream times the first v block rows of w, and of o blocks of another times the o block rows behind them: column z
unfoldable pub split_row : (set : Set) (left : List ℕ) (first : ℕ) (right : List ℕ) (second : ℕ) (w : List ℕ) (r : ℕ) → ℕ → ℕ
split_row set left first right second w r z =
    add (product_row set.l left first r set.v w (set.l * set.l) 0 z) (product_row set.l right second r set.o w (set.l * set.l) set.v z)

-- block row j of P(i) times block column b of w: the sum over k < n
abbrev pub map_sum : (set : Set) (public key w : List ℕ) (i j b : ℕ) → Matrix
map_sum set public key w i j b =
    sum_m (variables set) (λ k. mul_m set.l (PWith set public (P22 set key) i j k) (tile set.l (set.l * set.l) w k b))

module _ (set : Set) (left : List ℕ) (first : ℕ) (right : List ℕ) (second : ℕ) (w : List ℕ) (M : ℕ → Matrix)
    (left_is : (k : ℕ) → k < set.v → M k ≡ block_of set.l left (first + k))
    (right_is : (k : ℕ) → k < set.o → M (set.v + k) ≡ block_of set.l right (second + k)) where
  -- the two parts are one sum
  split-entry : (r : ℕ) {b c : ℕ} → b < set.l → c < set.l
      → split_row set left first right second w r (b * set.l + c) ≡ sum_m (variables set) (λ k. mul_m set.l (M k) (tile set.l (set.l * set.l) w k b)) r c
  unfolding split_row add_m
  split-entry r {b} {c} hb hc =
      let l = set.l in
      let whole : Holds set.l (set.l * set.l) (variables set) set.l w (tile set.l (set.l * set.l) w) = record { same = λ j k hj hk. same_refl } in
      let vinegar : product_row l left first r set.v w (l * l) 0 (b * l + c) ≡ sum_m set.v (λ k. mul_m l (M k) (tile l (l * l) w k b)) r c =
      product-row-entry whole left first r set.v 0 (omega arith) hb hc
      ∙ ap (λ (N : Matrix). N r c) (sum-cong (matrices l) set.v (λ k h. ap₂ (λ (N : Matrix) (m : ℕ). mul_m l N (tile l (l * l) w m b)) (sym (left_is k h)) (zero-plus k))) in
      let oil : product_row l right second r set.o w (l * l) set.v (b * l + c) ≡ sum_m set.o (λ k. mul_m l (M (set.v + k)) (tile l (l * l) w (set.v + k) b)) r c =
      product-row-entry whole right second r set.o set.v (omega arith) hb hc
      ∙ ap (λ (N : Matrix). N r c) (sum-cong (matrices l) set.o (λ k h. ap (λ (N : Matrix). mul_m l N (tile l (l * l) w (set.v + k) b)) (sym (right_is k h)))) in
      ap₂ add vinegar oil
      ∙ sym (ap (λ (N : Matrix). N r c) (sum-split (matrices l) set.v set.o (λ k. mul_m l (M k) (tile l (l * l) w k b))))

  -- l rows of a cleared buffer that gain them hold the products
  split-holds : {d t : List ℕ} → ((k : ℕ) → get_or d k 0 ≡ 0) → PlusRows d 0 set.l (set.l * set.l) (split_row set left first right second w) t
      → Holds set.l (set.l * set.l) 1 set.l t (λ z b. sum_m (variables set) (λ k. mul_m set.l (M k) (tile set.l (set.l * set.l) w k b)))
  split-holds {d} {t} z p =
      let l = set.l in
      let one : l ≡ 1 * l = omega arith in
      holds_rows z (subst (λ m. PlusRows d 0 m (l * l) (split_row set left first right second w) t) one p) (omega arith)
      (λ j b r c hj hb hr hc.
      let zero-j : j ≡ 0 = omega arith in
      let row : j * l + r ≡ r = rw zero-j (omega arith) in
      ap (λ y. split_row set left first right second w y (b * l + c)) row ∙ split-entry r hb hc)

module _ (set : Set) (public key w : List ℕ) (i j : ℕ) {first second : ℕ} {d t : List ℕ} where
  -- vinegar row j
  pub vinegar-holds : j < set.v → first ≡ p11_number set i j 0 → second ≡ p12_number set i j 0 → ((k : ℕ) → get_or d k 0 ≡ 0)
      → PlusRows d 0 set.l (set.l * set.l) (split_row set public first public second w) t
      → Holds set.l (set.l * set.l) 1 set.l t (λ z b. map_sum set public key w i j b)
  unfolding P11 P12
  vinegar-holds hj first-is second_is =
      split-holds set public first public second w (PWith set public (P22 set key) i j)
      (λ k h.
      let number : p11_number set i j k ≡ first + k = omega arith in
      parts-11 set.v (P11 set public i) (P12 set public i) (P21 set public i) (P22 set key i) j k hj h ∙ ap (block_of set.l public) number)
      (λ k h.
      let number : p12_number set i j k ≡ second + k = omega arith in
      parts-12 set.v (P11 set public i) (P12 set public i) (P21 set public i) (P22 set key i) j k hj ∙ ap (block_of set.l public) number)

  -- oil row j
  pub oil-holds : first ≡ p21_number set i j 0 → second ≡ p22_number set i j 0 → ((k : ℕ) → get_or d k 0 ≡ 0)
      → PlusRows d 0 set.l (set.l * set.l) (split_row set public first key second w) t
      → Holds set.l (set.l * set.l) 1 set.l t (λ z b. map_sum set public key w i (set.v + j) b)
  unfolding P21 P22
  oil-holds first-is second_is =
      split-holds set public first key second w (PWith set public (P22 set key) i (set.v + j))
      (λ k h.
      let number : p21_number set i j k ≡ first + k = omega arith in
      parts-21 set.v (P11 set public i) (P12 set public i) (P21 set public i) (P22 set key i) j k h ∙ ap (block_of set.l public) number)
      (λ k h.
      let number : p22_number set i j k ≡ second + k = omega arith in
      parts-22 set.v (P11 set public i) (P12 set public i) (P21 set public i) (P22 set key i) j k ∙ ap (block_of set.l key) number)

-- the same of an index that is not below v
pub oil-row : (set : Set) (public key w : List ℕ) (i j : ℕ) {t : List ℕ} → set.v + (j - set.v) ≡ j
    → Holds set.l (set.l * set.l) 1 set.l t (λ z b. map_sum set public key w i (set.v + (j - set.v)) b)
    → Holds set.l (set.l * set.l) 1 set.l t (λ z b. map_sum set public key w i j b)
oil-row set public key w i j {t} e h = subst (λ x. Holds set.l (set.l * set.l) 1 set.l t (λ z b. map_sum set public key w i x b)) e h
