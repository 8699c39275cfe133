-- `system::sides::add_rows` meets its contract. The invariant: the first e rows have gained, and the next has its place. Rests on Sides and tables' Sums.
use Rattle.std.proofs.Common.{◌+◌, ◌*◌}
use native.Mathlib.Nat.{le-mul_of_pos_right, mul-le-mul}
use Rattle.tables.specs.Sums.{adding-none, adding-next, adding-end}
use Rattle.system.specs.Sides.{row-widened, row-turn}
use native.Mathlib.Omega.{arith}
use Rattle.system.proofs.sides.add_rows.Goals as goal

pub overflow_mul-width : goal.overflow_mul-width
overflow_mul-width c =
    omega (arith, le-mul_of_pos_right (c.args.count * c.args.l) c.requires.l_in_bounds.1.0, c.requires.l_in_bounds.1.1.1)

pub overflow_mul-total : goal.overflow_mul-total
overflow_mul-total c =
    let small = c.requires.l_in_bounds.1.1.0 in
    omega (arith, mul-le-mul small small)

pub loop-e-init : goal.loop-e-init
loop-e-init c =
    let a = c.args in
    let b = c.requires.l_in_bounds.1 in
    record { turn = row-turn a.l (a.count * a.l * a.l + 1) b.0 b.1.0; rows = adding-none }

pub loop-e-preserved : goal.loop-e-preserved
loop-e-preserved c =
    let a = c.args in
    let b = c.requires.l_in_bounds.1 in
    record {
      turn = row-turn a.l (a.count * a.l * a.l + 1) b.0 b.1.0;
      rows =
          adding-next c.loop-e.invariant.rows c.loop-e-test.true
          (row-widened a.l a.count a.lefts.now a.rights.now c.loop-e.e c.add_row.ensures);
    }

pub returns : goal.returns
returns c = adding-end c.loop-e.invariant.rows c.loop-e-test.false
