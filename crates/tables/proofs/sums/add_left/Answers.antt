-- `tables::sums::add_left` meets its contract. The invariant: the terms of the first j are added. Rests on Sums.
use Rattle.std.proofs.Common.{◌*◌}
use native.Mathlib.Nat.{le-mul_of_pos_right}
use Rattle.sets.specs.Rooms.{vinegar_room}
use Rattle.rows.specs.Zero.{length-zeros}
use Rattle.tables.specs.Sums.{left_gain, summing-none, summing-next, summing-end, transposed-loaded, LeftTurn, left-turn}
use native.Mathlib.Omega.{arith}
use Rattle.tables.proofs.sums.add_left.Goals as goal

pub overflow_mul-n : goal.overflow_mul-n
overflow_mul-n c =
    omega (arith, le-mul_of_pos_right (c.args.count * c.args.l) c.requires.l_bound.1.0)

pub loop-j-init : goal.loop-j-init
loop-j-init c = (length-zeros vinegar_room, summing-none)

pub overflow_mul-j : goal.overflow_mul-j
overflow_mul-j c =
    let turn : LeftTurn c.args.l c.args.m c.args.number c.args.v c.args.count c.loop-j.j =
    let a = c.args in
    left-turn a.l a.m a.number a.v a.count c.requires.l_bound.1.0 c.loop-j-test.true in
    omega (arith, turn)

pub overflow_add-number : goal.overflow_add-number
overflow_add-number c =
    let turn : LeftTurn c.args.l c.args.m c.args.number c.args.v c.args.count c.loop-j.j =
    let a = c.args in
    left-turn a.l a.m a.number a.v a.count c.requires.l_bound.1.0 c.loop-j-test.true in
    omega (arith, turn)

pub load_blocks-requires : goal.load_blocks-requires
load_blocks-requires c =
    let turn : LeftTurn c.args.l c.args.m c.args.number c.args.v c.args.count c.loop-j.j =
    let a = c.args in
    left-turn a.l a.m a.number a.v a.count c.requires.l_bound.1.0 c.loop-j-test.true in
    record { l_in_bounds = omega (arith, turn); l_bound = omega (arith, turn) }

pub overflow_mul-l : goal.overflow_mul-l
overflow_mul-l c =
    let turn : LeftTurn c.args.l c.args.m c.args.number c.args.v c.args.count c.loop-j.j =
    let a = c.args in
    left-turn a.l a.m a.number a.v a.count c.requires.l_bound.1.0 c.loop-j-test.true in
    omega (arith, turn)

pub overflow_mul-j-in-loop-j : goal.overflow_mul-j-in-loop-j
overflow_mul-j-in-loop-j c =
    let turn : LeftTurn c.args.l c.args.m c.args.number c.args.v c.args.count c.loop-j.j =
    let a = c.args in
    left-turn a.l a.m a.number a.v a.count c.requires.l_bound.1.0 c.loop-j-test.true in
    omega (arith, turn)

pub add_transposed-requires : goal.add_transposed-requires
add_transposed-requires c =
    let turn : LeftTurn c.args.l c.args.m c.args.number c.args.v c.args.count c.loop-j.j =
    let a = c.args in
    left-turn a.l a.m a.number a.v a.count c.requires.l_bound.1.0 c.loop-j-test.true in
    omega (arith, turn, c.load_blocks.auto.dst, c.loop-j.invariant.1.so_far.long)

pub loop-j-preserved : goal.loop-j-preserved
loop-j-preserved c =
    let a = c.args in
    let loaded = c.load_blocks in (
      omega (arith, loaded.auto.dst),
      summing-next c.loop-j.invariant.1 c.loop-j-test.true
          (transposed-loaded a.x.now (c.loop-j.j * (a.l * a.m)) a.l c.add_transposed.ensures loaded.ensures),
    )

pub returns : goal.returns
unfolding left_gain
returns c = summing-end c.loop-j.invariant.1 c.loop-j-test.false
