-- `tables::add_blocks` meets its contract. The loop's invariant: for every table whose multiples these are, the first r rows have gained their products (`AddingBlocks`).
use Rattle.tables.specs.AddingBlocks.{adding-next}
use Rattle.tables.proofs.products.add_blocks.Goals as goal

pub loop-r-preserved : goal.loop-r-preserved
loop-r-preserved c =
    let laid = c.lay_blocks-place.ensures in
    adding-next c.loop-r.invariant c.loop-r-test.true laid c.product_word-w.ensures c.add_word.ensures
