-- `tables::private_table` meets its contract. The invariant: the first y rows are filled. Rests on RingRows, Table and Turns.
use Rattle.std.proofs.Common.{refl, ◌*◌, ◌≤◌, length}
use Rattle.tables.specs.Table.{filling-next, filling-end}
use Rattle.tables.specs.RingRows.{private-filled}
use Rattle.tables.specs.Turns.{PrivateTurn, private-turn, private-within}
use native.Mathlib.Omega.{arith}
use Rattle.sets.specs.Numbers.{numbers}
use Rattle.sets.proofs.Bounds.{bounds_of}
use Rattle.tables.proofs.private.private_table.Goals as goal

pub overflow_mul-w : goal.overflow_mul-w
overflow_mul-w c = omega (arith, (bounds_of c.args.set).products.ol)

pub overflow_mul-count : goal.overflow_mul-count
overflow_mul-count c = omega (arith, (bounds_of c.args.set).products.vl)

pub private_row-requires : goal.private_row-requires
private_row-requires c =
    let turn : PrivateTurn (numbers c.args.set) c.loop-y.y = private-turn (bounds_of c.args.set) c.loop-y-test.true in
    let within : c.args.set.v * c.args.set.o * c.args.set.l ≤ 2 * length c.args.private.now = private-within (bounds_of c.args.set) c.requires.private_len.0 in
    omega (arith, turn, c.requires.private_len, within, c.clear.auto.s)

pub loop-y-preserved : goal.loop-y-preserved
loop-y-preserved c =
    filling-next c.loop-y.invariant c.loop-y-test.true refl c.private_row.ensures

pub returns : goal.returns
returns c =
    private-filled (numbers c.args.set) c.args.private.now c.args.sp.now c.requires.powers c.clear.ensures
    (filling-end c.loop-y.invariant c.loop-y-test.false)
