-- `tables::private_row` meets its contract. The invariant: the rows of the first k elements are added, side by side. Rests on RingRows and Turns.
use Rattle.tables.specs.RingRows.{RingsRowing}
use Rattle.tables.proofs.private.private_row.Given as goal

abbrev pub invariant-loop-k : goal.invariant-loop-k
invariant-loop-k l = RingsRowing l.initial.t l.at l.l l.stream l.first l.sp l.x l.count l.k l.t
