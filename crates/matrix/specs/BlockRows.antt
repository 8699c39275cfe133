-- The rows of a block gain: row r stands from byte 5·r on, and only its first l bytes gain. A block of zeros whose rows gained M is the block of M.
-- And a row of a product, entry by entry of the left factor. Rests on Block and rows' PlusRows.
use Rattle.std.specs.Prelude.{◌≡◌, List, ℕ, ◌+◌, ◌*◌, ◌/◌, ◌%◌, ◌<◌, ◌≤◌, ltb, get_or}
use Rattle.std.proofs.Common.{sym, ap, subst, ◌∙◌, arith, lt-ltb, le-ltb}
use Rattle.std.proofs.Math.Decide.{dec_lt}
use Rattle.ground.specs.Pick.{pick}
use Rattle.field.specs.Field.{add, mul}
use Rattle.field.specs.Laws.{add-zero, zero-add}
use Rattle.rows.specs.Zero.{zeros, length-zeros, zero-at}
use Rattle.rows.specs.Plus.{Plus, plus-sum-none, plus-sum-next}
use Rattle.rows.specs.PlusRows.{PlusRows}
use Rattle.matrix.specs.Matrix.{Matrix, mul_m}
use Rattle.matrix.specs.Block.{view, block, block-ext, cell, inside, block_bytes, stride}

-- row r of M: its entries inside l, and nothing behind them
unfoldable pub block_row : (l : ℕ) (M : Matrix) → ℕ → ℕ → ℕ
block_row l M r c = pick (ltb c l) (M r c) 0

-- a part that gained is a longer part of which the rest gained nothing
pub widened : {d t : List ℕ} {at n m : ℕ} {f : ℕ → ℕ} → n ≤ m → Plus d at n f t → Plus d at m (λ c. pick (ltb c n) (f c) 0) t
widened {d} {t} {at} {n} {m} {f} w p = record {
  long = p.long;
  inside = λ k h.
      elim (dec_lt k n) [
        | yes b ↦ p.inside k b ∙ ap (add (get_or d (at + k) 0)) (rw (lt-ltb k n b))
        | no b ↦ let past : n ≤ k = omega arith in p.high (at + k) (omega arith) ∙ sym (rw (le-ltb k n past) (add-zero _))
      ];
  low = p.low;
  high = λ k h. p.high k (omega arith);
}

pub block-row : {l r at : ℕ} (M : Matrix) {d t : List ℕ} → l ≤ stride → Plus d at l (M r) t → Plus d at stride (block_row l M r) t
unfolding block_row
block-row M small p = widened small p

-- zeros whose rows gained M
pub block-filled : {l : ℕ} (M : Matrix) {t : List ℕ} → PlusRows (zeros block_bytes) 0 l stride (block_row l M) t → t ≡ block l M
unfolding block_row cell inside
block-filled {l} M {t} p = block-ext t l M (p.long ∙ length-zeros block_bytes) byte
  where
    byte : (e : ℕ) → e < block_bytes → get_or t e 0 ≡ cell l M e
    byte e h =
        elim (dec_lt (e / stride) l) [
          | yes b ↦
              let place : 0 + (e / stride * stride + e % stride) ≡ e = omega arith in
              let column : e % stride < stride = omega arith in
              let row = block_row l M (e / stride) (e % stride) in
              ap (λ x. get_or t x 0) (sym place) ∙ p.inside (e / stride) (e % stride) b column ∙ ap (λ x. add x row) (zero-at block_bytes (0 + (e / stride * stride + e % stride))) ∙ zero-add row
              ∙ sym (rw (lt-ltb (e / stride) l b))
          | no b ↦
              let past : l ≤ e / stride = omega arith in
              p.high e (omega arith) ∙ zero-at block_bytes e ∙ sym (rw (le-ltb (e / stride) l past))
        ]

-- ---- a row of a product, entry by entry of the left factor

pub product-row-none : (a b : List ℕ) (r : ℕ) {d : List ℕ} {at l : ℕ} → Plus d at l (mul_m 0 (view a) (view b) r) d
unfolding mul_m
product-row-none a b r = plus-sum-none (λ y c. mul (view a r y) (view b y c))

pub product-row-next : (a b : List ℕ) (r y : ℕ) {d t u : List ℕ} {at l : ℕ} → Plus d at l (mul_m y (view a) (view b) r) t
    → Plus t at l (λ c. mul (get_or a (r * stride + y) 0) (get_or b (y * stride + c) 0)) u → Plus d at l (mul_m (y + 1) (view a) (view b) r) u
unfolding mul_m view
product-row-next a b r y p q = plus-sum-next (λ y c. mul (view a r y) (view b y c)) p q

pub product-row-end : (a b : List ℕ) (r : ℕ) {d t : List ℕ} {at l y : ℕ} → y ≤ l → l ≤ y → Plus d at l (mul_m y (view a) (view b) r) t → Plus d at l (mul_m l (view a) (view b) r) t
product-row-end a b r {d} {t} {at} {l} h k p = subst (λ n. Plus d at l (mul_m n (view a) (view b) r) t) (omega arith) p
