-- `tables::private_row` meets its contract. The invariant: the rows of the first k elements are added, side by side. Rests on RingRows and Turns.
use Rattle.std.proofs.Common.{refl}
use Rattle.tables.specs.RingRows.{rings-next, rings-end}
use Rattle.tables.proofs.private.private_row.Goals as goal

pub loop-k-preserved : goal.loop-k-preserved
loop-k-preserved c =
    rings-next c.loop-k.invariant c.loop-k-test.true refl c.private_part.ensures

pub returns : goal.returns
returns c = rings-end c.loop-k.invariant c.loop-k-test.false
