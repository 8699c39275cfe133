-- `tables::add_block_row` meets its contract. The invariant: the rows of the first k blocks are added, side by side. Rests on Gains and Turns.
use Rattle.tables.specs.Gains.{Rowing}
use Rattle.tables.proofs.add_block_row.Given as goal

abbrev pub invariant-loop-k : goal.invariant-loop-k
invariant-loop-k l = Rowing l.initial.dst l.at l.stream l.number l.l l.r l.count l.k l.dst
