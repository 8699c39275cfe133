-- Where the verdict reads and writes: every matrix lies within its stream and every table within its buffer.
-- Rests on the bounds of an allowed set; block rows of P are streams' Numbers.
use Rattle.std.specs.Prelude.{ℕ, ◌+◌, ◌*◌, ◌<◌, ◌≤◌}
use Rattle.std.proofs.Common.{mul-le-mul_right, arith}
use Rattle.ground.specs.Place.{row_fits}
use Rattle.sets.specs.declared.Set.{Set}
use Rattle.sets.specs.Sets.{variables, most_v, most_o, most_l, most_row}
use Rattle.sets.specs.Bounds.{Bounds}
use Rattle.sets.specs.Rooms.{power_sums_room, sums-room}

-- the rows of one matrix index lie within the table of power sums
pub index-within : (l : ℕ) {o i n : ℕ} → i < o → o * (l * l) * (l * l) ≤ n → i * (l * l) * (l * l) + l * l * (l * l) ≤ n
index-within l {o} {i} h fits = let next : i + 1 ≤ o = omega arith in omega (arith, mul-le-mul_right (l * l * (l * l)) next)

-- block row j of a table of n block rows
pub block-row-within : (l : ℕ) {j n m : ℕ} → j < n → n * l * (l * l) ≤ m → (j + 1) * l * (l * l) ≤ m
block-row-within l {j} {n} h fits = let next : j + 1 ≤ n = omega arith in omega (arith, mul-le-mul_right (l * (l * l)) next)

-- the products on the way to the place of matrix index i in the table of power sums
pub record IndexPlace (l i : ℕ) : Type 0 where
  pub square : l * l ≤ most_l * most_l
  pub rows : i * (l * l) ≤ most_row
  pub place : i * (l * l) * (l * l) ≤ power_sums_room

module _ {set : Set} (b : Bounds set) where
  -- an index of a variable stays small
  pub few-variables : variables set ≤ most_v + most_o
  few-variables = omega (arith, b.limits.v-most, b.limits.o-most)

  pub index-place : {i : ℕ} → i < set.o → IndexPlace set.l i
  index-place h = record {
    square = b.products.ll;
    rows = omega (arith, row_fits (set.l * set.l) h, b.limits.row);
    place = omega (arith, index-within set.l h (sums-room b));
  }
