-- `tables::powers_of_s` meets its contract. The invariant: the first p powers are filled. Rests on PowerBlocks.
use Rattle.std.proofs.Common.{refl}
use Rattle.tables.specs.PowerBlocks.{stacking-next, stacking-filled}
use Rattle.tables.proofs.powers.powers_of_s.Goals as goal

pub loop-p-preserved : goal.loop-p-preserved
loop-p-preserved c =
    stacking-next c.loop-p.invariant c.loop-p-test.true refl c.add_power.ensures

pub returns : goal.returns
returns c = stacking-filled c.clear.ensures c.loop-p.invariant c.loop-p-test.false
