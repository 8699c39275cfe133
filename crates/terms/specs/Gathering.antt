-- The sum over both powers as the code forms it: over x in rows of l·l·l bytes, then over y row by row into a block.
-- Rests on rows' sums of rows, and on matrix's blocks.
use Rattle.std.specs.Prelude.{◌≡◌, List, ℕ, ◌+◌, ◌*◌, ◌/◌, ◌%◌, ◌<◌, ◌≤◌, length}
use Rattle.std.proofs.Math.Path.{sym, ap, ap₂}
use Rattle.std.proofs.Common.{◌∙◌, zero-add as zero-plus, not-suc-le-zero}
use Rattle.std.proofs.Math.Decide.{dec_lt}
use native.Mathlib.Omega.{arith}
use Rattle.std.proofs.Math.Arith.{digits_lt}
use Rattle.std.proofs.Math.ListN.{get_or}
use Rattle.algebra.specs.Sum.{sum, sum-cong, mul-sum, sum-swap}
use Rattle.field.specs.Field.{add, mul}
use Rattle.field.specs.Laws.{mul_left_comm}
use Rattle.field.specs.FieldRing.{field-ring}
use Rattle.rows.specs.Plus.{Plus, plus-zero-start}
use Rattle.rows.specs.Combine.{combination}
use Rattle.rows.specs.Tile.{tile}
use Rattle.rows.specs.Zero.{zeros, length-zeros, zero-at}
use Rattle.matrix.specs.Matrix.{Matrix, scale_m}
use Rattle.matrix.specs.Same.{Same, sum-entry}
use Rattle.matrix.specs.Block.{block, block-ext, cell, block_bytes, stride}
use Rattle.scheme.specs.Maps.{sum_m}
use Rattle.streams.specs.Blocks.{cell_below, cell-right, cell-entry}
use Rattle.matrix.specs.Promises.{coefficients}
use Rattle.matrix.specs.MatrixRing.{matrices}
use Rattle.terms.specs.Terms.{gathered_from}

-- the sum over y < l of q2(y) times columns y·l, .. of the l rows of l·l bytes that `left` holds
unfoldable pub folded_from : (l : ℕ) (left q2 : List ℕ) → Matrix
folded_from l left q2 r c = sum 0 add l (λ y. mul (get_or q2 y 0) (get_or left ((r * l + y) * l + c) 0))

-- ---- the loop that fills a block row by row

-- the first r rows are those of M, all else is 0
pub record Rowing (l : ℕ) (M : Matrix) (r : ℕ) (out : List ℕ) : Type 0 where
  pub upto : r ≤ l
  pub long : length out ≡ block_bytes
  pub rows : (x c : ℕ) → x < r → c < l → get_or out (x * stride + c) 0 ≡ M x c
  pub right : (x c : ℕ) → l ≤ c → c < stride → get_or out (x * stride + c) 0 ≡ 0
  pub below : (k : ℕ) → r * stride ≤ k → get_or out k 0 ≡ 0

pub rowing-none : {l : ℕ} {M : Matrix} → Rowing l M 0 (zeros block_bytes)
rowing-none =
    record { upto = omega arith; long = length-zeros block_bytes; rows = λ x c h hc. absurd (not-suc-le-zero h); right = λ x c h hc. zero-at block_bytes (x * stride + c); below = λ k h. zero-at block_bytes k }

pub rowing-next : {l r place : ℕ} {M : Matrix} {out more : List ℕ} → Rowing l M r out → r < l → l ≤ stride → place ≡ r * stride → Plus out place l (M r) more → Rowing l M (r + 1) more
rowing-next {l} {r} {place} {M} {out} {more} p h small e q =
    record {
      upto = omega arith;
      long = q.long ∙ p.long;
      rows = λ x c hx hc.
          elim (dec_lt x r) [
            | yes b ↦ q.low (x * stride + c) (omega arith) ∙ p.rows x c b hc
            | no b ↦
                let x-is : x ≡ r = omega arith in
                let new : get_or more (place + c) 0 ≡ M r c = plus-zero-start q (λ k hk. p.below (place + k) (omega arith)) c hc in
                rw x-is (rw e at new)
          ];
      right = λ x c hc h5.
          elim (dec_lt x r) [ yes b ↦ q.low (x * stride + c) (omega arith) ∙ p.right x c hc h5 | no b ↦ q.high (x * stride + c) (omega arith) ∙ p.right x c hc h5 ];
      below = λ k hk. q.high k (omega arith) ∙ p.below k (omega arith);
    }

pub rowing-end : {l r : ℕ} {M : Matrix} {out : List ℕ} → Rowing l M r out → l ≤ r → out ≡ block l M
rowing-end {l} {r} {M} {out} p h = block-ext out l M p.long byte
  where
    at : (e : ℕ) → get_or out (e / stride * stride + e % stride) 0 ≡ get_or out e 0
    at e = let is : e / stride * stride + e % stride ≡ e = omega arith in ap (λ k. get_or out k 0) is

    byte : (e : ℕ) → e < block_bytes → get_or out e 0 ≡ cell l M e
    byte e b =
        elim (dec_lt (e / stride) l) [
          | yes hr ↦
              elim (dec_lt (e % stride) l) [
                | yes hc ↦ sym (at e) ∙ p.rows (e / stride) (e % stride) (omega (arith, p.upto)) hc ∙ cell-entry l M e hr hc
                | no hc ↦ sym (at e) ∙ p.right (e / stride) (e % stride) (omega arith) (omega arith) ∙ cell-right l M e hr (omega arith)
              ]
          | no hr ↦ let past = p.upto in p.below e (omega arith) ∙ cell_below l M e (omega arith)
        ]

-- what row r gains
pub folded-row : (l : ℕ) (left q2 : List ℕ) (r : ℕ) {first : ℕ} (c : ℕ) → first ≡ r * l → combination (λ y. get_or q2 (0 + y * 1) 0) left l first l c ≡ folded_from l left q2 r c
unfolding folded_from
folded-row l left q2 r {first} c e =
    sum-cong field-ring l (λ y hy.
    let place : 0 + y * 1 ≡ y = omega arith in
    ap₂ (λ i f. mul (get_or q2 i 0) (get_or left ((f + y) * l + c) 0)) place e)

-- ---- the two sums

-- the sum reads the first l coefficients only
pub gathered-cong : (l : ℕ) {a a' b b' : ℕ → ℕ} (sums : List ℕ) {index index' : ℕ} → ((x : ℕ) → x < l → a x ≡ a' x) → ((x : ℕ) → x < l → b x ≡ b' x) → index ≡ index'
    → gathered_from l a b sums index ≡ gathered_from l a' b' sums index'
unfolding gathered_from
gathered-cong l sums ea eb e =
    sum-cong (matrices l) l (λ x hx. sum-cong (matrices l) l (λ y hy.
    rw (ea x hx, eb y hy, e)))

module _ (l : ℕ) (sums : List ℕ) (index : ℕ) (q1 left : List ℕ) where
  -- the sum over x, entry (r, y·l + c)
  left-entry : {d : List ℕ} → ((k : ℕ) → get_or d k 0 ≡ 0)
      → Plus d 0 (l * l * l) (combination (λ x. get_or q1 (0 + x * 1) 0) sums (l * l * l) (index * l) l) left
      → (r y c : ℕ) → r < l → y < l → c < l
      → get_or left ((r * l + y) * l + c) 0 ≡ sum 0 add l (λ x. mul (get_or q1 x 0) (tile l (l * l) sums (index * l + x) y r c))
  unfolding tile
  left-entry {d} z p r y c hr hy hc =
      let place : (r * l + y) * l + c < l * l * l = digits_lt (digits_lt hr hy) hc in
      let gained = plus-zero-start p (λ k h. z (0 + k)) ((r * l + y) * l + c) place in
      ap (λ i. get_or left i 0) (sym (zero-plus ((r * l + y) * l + c))) ∙ gained
      ∙ sum-cong field-ring l (λ x hx.
      let scalar : 0 + x * 1 ≡ x = omega arith in
      let row : (index * l + x) * (l * l * l) + ((r * l + y) * l + c) ≡ ((index * l + x) * l + r) * (l * l) + (y * l + c) = omega arith in
      ap₂ (λ i j. mul (get_or q1 i 0) (get_or sums j 0)) scalar row)

  -- both sums
  pub gathered-is : (q2 : List ℕ) {d : List ℕ} → ((k : ℕ) → get_or d k 0 ≡ 0)
      → Plus d 0 (l * l * l) (combination (λ x. get_or q1 (0 + x * 1) 0) sums (l * l * l) (index * l) l) left
      → Same l (folded_from l left q2) (gathered_from l (coefficients q1) (coefficients q2) sums index)
  unfolding folded_from gathered_from scale_m
  gathered-is q2 z p = record {
    at = λ r c hr hc.
        sum-cong field-ring l (λ y hy.
        ap (mul (get_or q2 y 0)) (left-entry z p r y c hr hy hc)
        ∙ mul-sum field-ring (get_or q2 y 0) l (λ x. mul (get_or q1 x 0) (tile l (l * l) sums (index * l + x) y r c))
        ∙ sum-cong field-ring l (λ x hx. mul_left_comm (get_or q2 y 0) (get_or q1 x 0) (tile l (l * l) sums (index * l + x) y r c)))
        ∙ sum-swap field-ring l l (λ y x. mul (get_or q1 x 0) (mul (get_or q2 y 0) (tile l (l * l) sums (index * l + x) y r c)))
        ∙ sum-cong field-ring l (λ x hx. sym (sum-entry l (λ y. scale_m (get_or q1 x 0) (scale_m (get_or q2 y 0) (tile l (l * l) sums (index * l + x) y))) r c))
        ∙ sym (sum-entry l (λ x. sum_m l (λ y. scale_m (get_or q1 x 0) (scale_m (get_or q2 y 0) (tile l (l * l) sums (index * l + x) y)))) r c);
  }
