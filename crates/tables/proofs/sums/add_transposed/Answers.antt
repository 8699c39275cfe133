-- `tables::sums::add_transposed` meets its contract. The invariant: the first y rows have gained. Rests on Sums.
use Rattle.tables.specs.Sums.{adding-next, transposed-row}
use Rattle.tables.proofs.sums.add_transposed.Goals as goal

pub loop-y-preserved : goal.loop-y-preserved
loop-y-preserved c =
    let a = c.args in
    adding-next c.loop-y.invariant c.loop-y-test.true
    (transposed-row a.scalars.now a.place a.m a.count a.src.now c.loop-y.y c.add_columns.ensures)
