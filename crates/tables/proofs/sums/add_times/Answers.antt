-- `tables::sums::add_times` meets its contract. The invariant: the first y rows have gained. Rests on Sums.
use Rattle.tables.specs.Sums.{adding-next, times-row}
use Rattle.tables.proofs.sums.add_times.Goals as goal

pub loop-y-preserved : goal.loop-y-preserved
loop-y-preserved c =
    let a = c.args in
    adding-next c.loop-y.invariant c.loop-y-test.true
    (times-row a.scalars.now a.count a.src.now c.loop-y.y c.add_columns.ensures)
