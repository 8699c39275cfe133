-- `tables::add_blocks` meets its contract. The loop's invariant: for every table whose multiples these are, the first r rows have gained their products (`AddingBlocks`).
use Rattle.tables.specs.AddingBlocks.{AddingBlocks}
use Rattle.tables.proofs.products.add_blocks.Given as goal

abbrev pub invariant-loop-r : goal.invariant-loop-r
invariant-loop-r l = AddingBlocks l.initial.dst l.at l.n l.stream l.number l.l l.count l.multiples l.first l.r l.dst
