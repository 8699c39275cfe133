-- `tables::powers_of_s` meets its contract. The invariant: the first p powers are filled. Rests on PowerBlocks.
use Rattle.tables.specs.PowerBlocks.{Stacking}
use Rattle.tables.proofs.powers.powers_of_s.Given as goal

abbrev pub invariant-loop-p : goal.invariant-loop-p
invariant-loop-p l = Stacking l.initial.sp l.l l.p l.sp
