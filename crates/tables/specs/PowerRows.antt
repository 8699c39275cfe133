-- The powers of S times the matrices of a list, row by row.
-- Rests on RingRows' table of the powers and on Unpacked's lists.
use Rattle.std.specs.Prelude.{◌≡◌, List, ℕ, ◌+◌, ◌*◌, ◌/◌, ◌%◌, ◌<◌, ◌≤◌, length, get_or}
use Rattle.std.proofs.Common.{ap, ap₂, subst, mul-one, mul-le-mul_right, arith}
use Rattle.std.proofs.Math.Arith.{digits_div, digits_mod}
use Rattle.algebra.specs.Sum.{sum, sum-cong}
use Rattle.field.specs.Field.{add, mul}
use Rattle.field.specs.Laws.{mul-lt}
use Rattle.field.specs.FieldRing.{field-ring, sum_lt}
use Rattle.matrix.specs.Matrix.{mul_m}
use Rattle.matrix.specs.Same.{same_refl, same-mul}
use Rattle.scheme.specs.Streams.{block_of}
use Rattle.scheme.specs.Regroup.{power_times}
use Rattle.rows.specs.Plus.{Plus, plus-cong}
use Rattle.rows.specs.PlusRows.{PlusRows, rows_next, rows-plus}
use Rattle.rows.specs.Combine.{combination}
use Rattle.rows.specs.Zero.{zeros}
use Rattle.tables.specs.Table.{Holds, holds_same, Filled, filled-rows}
use Rattle.tables.specs.Unpacked.{Unpacked, list_of, unpacked-list}
use Rattle.tables.specs.RingRows.{Powers, power-entry}

-- row x of S to the b times matrix k of the list: column c
unfoldable pub times_row : (l : ℕ) (list : List ℕ) (k : ℕ) (sp : List ℕ) (x b : ℕ) → ℕ → ℕ
times_row l list k sp x b c = sum 0 add l (λ q. mul (get_or sp ((b * l + x) * l + q) 0) (get_or list ((k * l + q) * l + c) 0))

-- the same for all powers, side by side: column z
unfoldable pub powers_row : (l : ℕ) (list : List ℕ) (k : ℕ) (sp : List ℕ) (x : ℕ) → ℕ → ℕ
powers_row l list k sp x z = times_row l list k sp x (z / l) (z % l)

pub times-row-lt : (l : ℕ) (list : List ℕ) (k : ℕ) (sp : List ℕ) (x b c : ℕ) → times_row l list k sp x b c < 16
unfolding times_row
times-row-lt l list k sp x b c = sum_lt l (λ q h. mul-lt _ _)

pub times-row-entry : {l : ℕ} {sp : List ℕ} → Powers l sp → (list : List ℕ) (k : ℕ) {x b : ℕ} (c : ℕ) → x < l → b < l
    → times_row l list k sp x b c ≡ power_times l b (list_of l list k) x c
unfolding times_row mul_m list_of
times-row-entry {l} {sp} h list k {x} {b} c hx hb =
    sum-cong field-ring l (λ q hq.
    let place : (k * l + q) * l + c ≡ k * (l * l) + (q * l + c) = omega arith in
    ap₂ mul (power-entry h hb hx hq) (ap (λ i. get_or list i 0) place))

-- a loop that adds the row for one power after the other
pub record Powering (d : List ℕ) (at l : ℕ) (list : List ℕ) (k : ℕ) (sp : List ℕ) (x b : ℕ) (t : List ℕ) : Type 0 where
  pub upto : b ≤ l
  pub so_far : PlusRows d at b l (times_row l list k sp x) t

pub powering-next : {d t u : List ℕ} {at l : ℕ} {list : List ℕ} {k : ℕ} {sp : List ℕ} {x b place from first : ℕ} → Powering d at l list k sp x b t → b < l
    → place ≡ at + b * l → from ≡ (b * l + x) * l → first ≡ k * l → Plus t place l (combination (λ q. get_or sp (from + q * 1) 0) list l first l) u
    → Powering d at l list k sp x (b + 1) u
unfolding times_row
powering-next {l = l} {list} {k} {sp} {x} {b} {place} {from} {first} w h place_is from_is first-is q = record {
  upto = omega arith;
  so_far = rows_next w.so_far place_is (plus-cong (λ c hc. sum-cong field-ring l (λ y hy. term c y)) q);
}
  where
    term : (c y : ℕ) → mul (get_or sp (from + y * 1) 0) (get_or list ((first + y) * l + c) 0) ≡ mul (get_or sp ((b * l + x) * l + y) 0) (get_or list ((k * l + y) * l + c) 0)
    term c y = rw (from_is, first-is, mul-one y)

pub powering-end : {d t : List ℕ} {at l : ℕ} {list : List ℕ} {k : ℕ} {sp : List ℕ} {x b : ℕ} → Powering d at l list k sp x b t → l ≤ b
    → Plus d at (l * l) (powers_row l list k sp x) t
unfolding powers_row
powering-end {d} {t} {at} {l} {list} {k} {sp} {x} w h =
    subst (λ n. Plus d at (n * l) (λ z. times_row l list k sp x (z / l) (z % l)) t) (omega (arith, w.upto)) (rows-plus w.so_far)

-- the table: row y is row y % l of the powers times matrix y / l
abbrev pub power_row : (l : ℕ) (list sp : List ℕ) (y : ℕ) → ℕ → ℕ
power_row l list sp y = powers_row l list (y / l) sp (y % l)

pub power-filled : (l n : ℕ) (list sp : List ℕ) {before d t : List ℕ} → Powers l sp → d ≡ zeros (length before) → PlusRows d 0 (n * l) (l * l) (power_row l list sp) t
    → Filled l (l * l) n l (λ k b. power_times l b (list_of l list k)) before t
unfolding powers_row
power-filled l n list sp h z p =
    filled-rows z p (omega arith)
    (λ k b x c hk hb hx hc. rw (digits_div k hx, digits_mod k hx, digits_div b hc, digits_mod b hc) (times-row-entry h list k c hx hb))
    (λ y e hy he. times-row-lt l list (y / l) sp (y % l) (e / l) (e % l))

-- the table of an unpacked stream holds the powers of S times the stream's blocks
pub power-blocks : {l n m : ℕ} {stream before list t : List ℕ} → Unpacked stream m before list → n * (l * l) ≤ m
    → Holds l (l * l) n l t (λ k b. power_times l b (list_of l list k)) → Holds l (l * l) n l t (λ k b. power_times l b (block_of l stream k))
power-blocks {l} {n} {m} u fits h =
    holds_same (λ k b hk hb.
    let last : k + 1 ≤ n = omega arith in
    let within : (k + 1) * (l * l) ≤ m = omega (arith, mul-le-mul_right (l * l) last) in
    same-mul same_refl (unpacked-list u l k within)) h
