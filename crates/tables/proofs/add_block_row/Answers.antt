-- `tables::add_block_row` meets its contract. The invariant: the rows of the first k blocks are added, side by side. Rests on Gains and Turns.
use Rattle.std.proofs.Common.{refl}
use Rattle.ground.specs.Place.{row_fits}
use Rattle.tables.specs.Gains.{rowing-next, rowing-end}
use Rattle.tables.specs.Turns.{BlockTurn, block-turn}
use native.Mathlib.Omega.{arith}
use Rattle.tables.proofs.add_block_row.Goals as goal

pub add_elements-requires : goal.add_elements-requires
add_elements-requires c =
    let turn : BlockTurn c.args.l c.args.number c.args.count c.loop-k.k c.args.r = block-turn c.args.l c.args.number c.loop-k-test.true c.requires.1 in
    omega (arith, turn, row_fits c.args.l c.loop-k-test.true, c.row_start-from.ensures)

pub loop-k-preserved : goal.loop-k-preserved
loop-k-preserved c =
    rowing-next c.loop-k.invariant c.loop-k-test.true refl c.row_start-from.ensures c.add_elements.ensures

pub returns : goal.returns
returns c = rowing-end c.loop-k.invariant c.loop-k-test.false
