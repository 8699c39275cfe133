-- `salvage::list_spoiled` meets its contract: the first b places hold what they are to. Rests on Listing.
use Rattle.salvage.specs.Listing.{Listing}
use Rattle.salvage.proofs.listing.list_spoiled.Given as goal

abbrev pub invariant-loop-b : goal.invariant-loop-b
invariant-loop-b l = Listing l.book l.initial.list l.n l.b l.list
