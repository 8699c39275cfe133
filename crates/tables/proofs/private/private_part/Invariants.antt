-- `tables::private_part` meets its contract. The invariant: the terms of the first p powers are added. Rests on RingRows and Turns.
use Rattle.tables.specs.RingRows.{Ringing}
use Rattle.tables.proofs.private.private_part.Given as goal

abbrev pub invariant-loop-p : goal.invariant-loop-p
invariant-loop-p l = Ringing l.initial.t l.at l.l l.stream l.group l.sp l.x l.p l.t
