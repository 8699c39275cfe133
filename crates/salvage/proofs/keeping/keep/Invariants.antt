-- `salvage::keep` meets its contract: k of the first b blocks are kept, and what is kept of the others is still to come. Rests on Keeping.
use Rattle.salvage.specs.Keeping.{Keeping}
use Rattle.salvage.proofs.keeping.keep.Given as goal

abbrev pub invariant-loop-b : goal.invariant-loop-b
invariant-loop-b l = Keeping l.initial.output l.book l.list l.n l.k l.b l.output
