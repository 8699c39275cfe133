-- `salvage::judge` meets its contract: the first b blocks are judged, and `before` is the nearest good block before block b. Rests on Judging.
use Rattle.salvage.specs.Judging.{Judges}
use Rattle.salvage.proofs.judging.judge.Given as goal

abbrev pub invariant-loop-b : goal.invariant-loop-b
invariant-loop-b l = Judges l.book l.initial.list l.n l.b l.before l.list
