-- `tables::private_part` meets its contract. The invariant: the terms of the first p powers are added. Rests on RingRows and Turns.
use Rattle.std.proofs.Common.{refl}
use Rattle.tables.specs.RingRows.{ringing-none, ringing-next, ringing-end}
use Rattle.tables.proofs.private.private_part.Goals as goal

pub loop-p-init : goal.loop-p-init
loop-p-init c = ringing-none

pub loop-p-preserved : goal.loop-p-preserved
loop-p-preserved c =
    ringing-next c.loop-p.invariant c.loop-p-test.true c.coefficient_at-scalar.ensures refl c.add_scaled.ensures

pub returns : goal.returns
returns c = ringing-end c.loop-p.invariant c.loop-p-test.false
