-- `tables::power_table` meets its contract. The invariant: the first y rows are filled. Rests on PowerRows, Table and Turns.
use Rattle.std.proofs.Common.{refl}
use Rattle.tables.specs.Table.{filling-next, filling-end}
use Rattle.tables.specs.PowerRows.{power-filled}
use Rattle.tables.specs.Turns.{ListTurn, list-turn}
use native.Mathlib.Omega.{arith}
use Rattle.tables.proofs.powers.power_table.Goals as goal

pub power_row-requires : goal.power_row-requires
power_row-requires c =
    let turn : ListTurn c.args.l c.args.n c.loop-y.y = list-turn c.args.l c.args.n c.requires.l_nonzero.0 c.loop-y-test.true in
    omega (arith, turn, c.requires.l_nonzero, c.clear.auto.s)

pub loop-y-preserved : goal.loop-y-preserved
loop-y-preserved c =
    filling-next c.loop-y.invariant c.loop-y-test.true refl c.power_row.ensures

pub returns : goal.returns
returns c =
    power-filled c.args.l c.args.n c.args.list.now c.args.sp.now c.requires.powers
    c.clear.ensures (filling-end c.loop-y.invariant c.loop-y-test.false)
