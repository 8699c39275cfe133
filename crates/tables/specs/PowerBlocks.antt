-- The table of the powers of S, filled block by block from matrix's blocks of bytes.
-- Rests on RingRows, on matrix's blocks and on rows that join.
use Rattle.std.specs.Prelude.{◌≡◌, List, ℕ, ◌+◌, ◌*◌, ◌/◌, ◌%◌, ◌<◌, ◌≤◌, length, get_or}
use Rattle.std.proofs.Common.{sym, ap, ap₂, subst, ◌∙◌, zero-mul, arith}
use Rattle.std.proofs.Math.Arith.{digits_div, digits_mod}
use Rattle.field.specs.Field.{mul}
use Rattle.field.specs.Laws.{one-mul}
use Rattle.matrix.specs.RingElements.{power_s}
use Rattle.matrix.specs.Block.{view, block, view-block, stride}
use Rattle.rows.specs.Plus.{Plus, plus-cong}
use Rattle.rows.specs.PlusRows.{PlusRows, rows_none, rows-cong}
use Rattle.rows.specs.Zero.{zeros}
use Rattle.rows.specs.RowsJoin.{rows_join}
use Rattle.tables.specs.Table.{Filled, filled-rows}
use Rattle.tables.specs.RingRows.{power-lt}

-- once row r of the block of S to the p
pub power-gains : (l p : ℕ) {r : ℕ} {b d t : List ℕ} {at from : ℕ} → l ≤ stride → b ≡ block l (power_s l p) → r < l → from ≡ r * stride
    → Plus d at l (λ c. mul 1 (get_or b (from + c) 0)) t → Plus d at l (power_s l p r) t
unfolding view
power-gains l p {r} small b-is hr from_is =
    plus-cong (λ c hc.
    ap₂ (λ s i. mul 1 (get_or s (i + c) 0)) b-is from_is
    ∙ ap (mul 1) ((view-block l (power_s l p) small).at r c hr hc)
    ∙ one-mul (power_s l p r c) (power-lt l p r c))

-- row y of the table: row y % l of S to the y / l
abbrev pub power_of_row : (l y : ℕ) → ℕ → ℕ
power_of_row l y = power_s l (y / l) (y % l)

-- a loop that adds one power after the other
pub record Stacking (d : List ℕ) (l p : ℕ) (t : List ℕ) : Type 0 where
  pub upto : p ≤ l
  pub so_far : PlusRows d 0 (p * l) l (power_of_row l) t

pub stacking-none : {d : List ℕ} {l : ℕ} → Stacking d l 0 d
stacking-none {d} {l} = record { upto = omega arith; so_far = subst (λ m. PlusRows d 0 m l (power_of_row l) d) (sym (zero-mul l)) rows_none }

pub stacking-next : {d t u : List ℕ} {l p place : ℕ} → Stacking d l p t → p < l → place ≡ p * (l * l) → PlusRows t place l l (power_s l p) u → Stacking d l (p + 1) u
stacking-next {d} {t} {u} {l} {p} {place} w h place_is q =
    let same : (r c : ℕ) → r < l → c < l → power_s l p r c ≡ power_of_row l (p * l + r) c = λ r c hr hc. rw (digits_div p hr, digits_mod p hr) in
    let next : p * l + l ≡ (p + 1) * l = omega arith in
    record { upto = omega arith; so_far = subst (λ m. PlusRows d 0 m l (power_of_row l) u) next (rows_join w.so_far (omega arith) (rows-cong same q)) }

pub stacking-filled : {before d t : List ℕ} {l p : ℕ} → d ≡ zeros (length before) → Stacking d l p t → l ≤ p → Filled l l l 1 (λ p k. power_s l p) before t
stacking-filled {before} {d} {t} {l} {p} z w h =
    let all : p ≡ l = omega (arith, w.upto) in
    let rows : PlusRows d 0 (l * l) l (power_of_row l) t = subst (λ m. PlusRows d 0 (m * l) l (power_of_row l) t) all w.so_far in
    let one : 1 * l ≤ l = omega arith in
    filled-rows z rows one
    (λ j k r c hj hk hr hc.
    let zero-k : k ≡ 0 = omega arith in
    let column : k * l + c ≡ c = rw zero-k (omega arith) in
    rw (digits_div j hr, digits_mod j hr, column))
    (λ y c hy hc. power-lt l (y / l) (y % l) c)
