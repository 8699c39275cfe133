-- `salvage::mark_all` meets its contract: what is marked so far, and what the blocks from b on spoil, is all that is spoiled. Rests on Marking.
use Rattle.salvage.specs.Marking.{Marking}
use Rattle.salvage.proofs.marking.mark_all.Given as goal

abbrev pub invariant-loop-b : goal.invariant-loop-b
invariant-loop-b l = Marking l.book l.marks l.n l.b l.before l.pending
