-- `system::sides::add_row` meets its contract. The invariant: the first q parts of l bytes have gained, and the next has its place. Rests on Sides and tables' Sums.
use Rattle.std.proofs.Common.{◌*◌, ◌<◌}
use native.Mathlib.Nat.{le-mul_of_pos_right}
use Rattle.tables.specs.Sums.{adding-none, adding-next, adding-end}
use Rattle.system.specs.Sides.{cell_row, cell-turn}
use native.Mathlib.Omega.{arith}
use Rattle.system.proofs.sides.add_row.Goals as goal

pub overflow_mul-total : goal.overflow_mul-total
overflow_mul-total c =
    let positive : 0 < c.args.l = omega (arith, c.requires.l_in_bounds.1.0) in
    omega (arith, c.requires.l_in_bounds.0, le-mul_of_pos_right (c.args.count * c.args.l) positive)

pub loop-q-init : goal.loop-q-init
loop-q-init c =
    let a = c.args in
    let b = c.requires.l_in_bounds in
    record { turn = cell-turn a.l a.count a.r a.c (omega (arith, b.1.0)) b.1.0 b.1.1.0; parts = adding-none }

pub loop-q-preserved : goal.loop-q-preserved
loop-q-preserved c =
    let a = c.args in
    let b = c.requires.l_in_bounds in
    record {
      turn = cell-turn a.l a.count a.r a.c (omega (arith, b.1.0)) b.1.0 b.1.1.0;
      parts =
          adding-next c.loop-q.invariant.parts c.loop-q-test.true
          (cell_row a.l a.lefts.now a.rights.now a.r a.c c.loop-q.q c.add_scaled.ensures c.add_scaled-in-loop-q.ensures);
    }

pub returns : goal.returns
returns c = adding-end c.loop-q.invariant.parts c.loop-q-test.false
