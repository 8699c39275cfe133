-- `terms::folded` meets its contract. The invariant: the first r rows of the block are there, all else is 0. Rests on Gathering's Rowing.
use Rattle.terms.specs.Gathering.{folded_from, Rowing}
use Rattle.terms.proofs.gathering.folded.Given as goal

abbrev pub invariant-loop-r : goal.invariant-loop-r
invariant-loop-r l = Rowing l.l (folded_from l.l l.left l.q2) l.r l.out
