-- Where one matrix index's rows stand in the tables, and that no product of the code wraps.
-- Rests on the bounds of an allowed set.
use Rattle.std.specs.Prelude.{ℕ, ◌+◌, ◌*◌, ◌<◌, ◌≤◌}
use Rattle.std.proofs.Common.{mul-le-mul, arith}
use Rattle.sets.specs.Rooms.{vinegar_powers_room, vinegar_room}
use Rattle.ground.specs.Place.{row_fits}
use Rattle.sets.specs.declared.Set.{Set}
use Rattle.sets.specs.Sets.{most_v, most_l, most_o, most_row}
use Rattle.sets.specs.Bounds.{Bounds}
use Rattle.sets.specs.Rooms.{v-blocks-room, o-blocks-room}

-- products of the set's numbers that the tables' sizes go by
pub record TableSizes (set : Set) : Type 0 where
  pub positive-v : 0 < set.v
  pub positive-o : 0 < set.o
  pub positive-l : 0 < set.l
  pub square : 0 < set.l * set.l
  pub rows : 0 < set.v * set.l
  pub vv : set.v * set.v ≤ most_v * most_v
  pub vo : set.v * set.o ≤ most_v * most_o
  pub ov : set.o * set.v ≤ most_v * most_o
  pub vl : set.v * set.l ≤ most_v * most_l
  pub ol : set.o * set.l ≤ most_row
  pub oll : set.o * set.l * set.l ≤ most_row
  pub ll : set.l * set.l ≤ most_l * most_l
  pub lvl : set.l * (set.v * set.l) ≤ vinegar_room
  pub lol : set.l * (set.o * set.l) ≤ vinegar_room
  pub llvl : set.l * set.l * (set.v * set.l) ≤ vinegar_powers_room
  pub vlll : set.v * set.l * (set.l * set.l) ≤ vinegar_powers_room
  pub llol : set.l * set.l * (set.o * set.l) ≤ most_row * most_l
  pub olll : set.o * set.l * (set.l * set.l) ≤ most_row * most_l
  pub left : set.o * (set.l * set.l) * (set.o * set.l) ≤ most_row * most_row
  pub right : set.o * (set.o * set.l) * (set.l * set.l) ≤ most_row * most_row
  pub sums : set.o * (set.l * set.l) * (set.l * set.l) ≤ most_row * (most_l * most_l)
  pub equation : set.l * set.l * (set.o * set.l * set.l + 1) ≤ most_l * most_l * (most_row + 1)
  pub system : set.o * (set.l * set.l) * (set.o * set.l * set.l + 1) ≤ most_row * (most_row + 1)
  pub llll : set.l * set.l * (set.l * set.l) ≤ most_l * most_l * (most_l * most_l)

pub table-sizes : {set : Set} → Bounds set → TableSizes set
table-sizes {set} b =
    let l = b.limits in
    let p = b.products in
    let more = mul-le-mul p.vll l.l-most in
    let one : 1 ≤ set.l = omega arith in
    let ol : set.o * set.l ≤ most_row = omega arith in
    let width : set.o * set.l * set.l + 1 ≤ most_row + 1 = omega (arith, l.row) in
    record {
      positive-v = omega arith;
      positive-o = omega arith;
      positive-l = omega arith;
      square = omega (arith, mul-le-mul one one);
      rows = omega (arith, mul-le-mul l.v-least one);
      vv = p.vv;
      vo = p.vo;
      ov = omega (arith, p.vo);
      vl = p.vl;
      ol = ol;
      oll = omega (arith, l.row);
      ll = p.ll;
      lvl = v-blocks-room b;
      lol = o-blocks-room b;
      llvl = omega (arith, more);
      vlll = omega (arith, more);
      llol = omega (arith, p.olll);
      olll = omega (arith, p.olll);
      left = omega (arith, mul-le-mul ol l.row);
      right = omega (arith, mul-le-mul ol l.row);
      sums = mul-le-mul l.row p.ll;
      equation = mul-le-mul p.ll width;
      system = mul-le-mul l.row width;
      llll = p.llll;
    }

-- the rows of matrix index i among those of all: m rows of n bytes for each
pub stack-fits : {i o : ℕ} (m n : ℕ) → i < o → i * (m * n) + m * n ≤ o * m * n
stack-fits m n h = omega (arith, row_fits (m * n) h)

-- for goals that the check answers
pub ruleset sizes = (table-sizes)
