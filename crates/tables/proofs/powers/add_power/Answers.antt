-- `tables::add_power` meets its contract. The invariant: the first r rows of the power are added. Rests on PowerBlocks and matrix's blocks.
use Rattle.std.proofs.Common.{refl}
use Rattle.rows.specs.PlusRows.{rows_next}
use Rattle.tables.specs.PowerBlocks.{power-gains}
use native.Mathlib.Omega.{arith}
use Rattle.tables.proofs.powers.add_power.Goals as goal

pub loop-r-preserved : goal.loop-r-preserved
loop-r-preserved c =
    let power = c.s_power-power.ensures in
    let gains = power-gains c.args.l c.args.p c.requires.0 power c.loop-r-test.true refl c.add_scaled.ensures in
    (omega (arith, c.loop-r-test.true), rows_next c.loop-r.invariant.1 refl gains)
