-- `system::sides::add_outer` meets its contract. The invariant: the first z rows have gained, and the next has its place. Rests on Sides and tables' Sums.
use Rattle.std.proofs.Common.{◌*◌, ◌<◌}
use Rattle.matrix.specs.Block.{stride}
use Rattle.tables.specs.Sums.{adding-none, adding-next-at, adding-end}
use Rattle.system.specs.Sides.{outer-row, outer-turn}
use native.Mathlib.Nat.{le-mul_of_pos_right}
use native.Mathlib.Omega.{arith}
use Rattle.system.proofs.sides.add_outer.Goals as goal

pub overflow_mul-total : goal.overflow_mul-total
overflow_mul-total c =
    let l = c.args.l in
    let wide : 0 < l * stride = omega (arith, c.requires.l_nonzero.0) in
    omega (arith, c.requires.l_nonzero.1.1, le-mul_of_pos_right (c.args.count * l) c.requires.l_nonzero.0, le-mul_of_pos_right (c.args.count * l * l) wide)

pub overflow_mul-total-2 : goal.overflow_mul-total-2
overflow_mul-total-2 c =
    let l = c.args.l in
    let wide : 0 < l * stride = omega (arith, c.requires.l_nonzero.0) in
    omega (arith, c.requires.l_nonzero.1.1, le-mul_of_pos_right (c.args.count * l * l) wide)

pub loop-z-init : goal.loop-z-init
loop-z-init c = record { turn = outer-turn c.args.l c.args.count c.requires.l_nonzero.0; rows = adding-none }

pub loop-z-preserved : goal.loop-z-preserved
loop-z-preserved c =
    let a = c.args in
    record {
      turn = outer-turn a.l a.count c.requires.l_nonzero.0;
      rows = adding-next-at c.loop-z.invariant.rows c.loop-z-test.true (omega arith) (outer-row a.l a.sides.now a.m.now c.loop-z.z c.add_scaled.ensures);
    }

pub returns : goal.returns
returns c = adding-end c.loop-z.invariant.rows c.loop-z-test.false
