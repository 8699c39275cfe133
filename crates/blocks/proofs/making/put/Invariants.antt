-- `blocks::put` meets its contract: the first k bytes are put. Rests on ground's Segment.
use Rattle.std.proofs.Common.{get_or}
use Rattle.ground.specs.Segment.{Segment}
use Rattle.blocks.proofs.making.put.Given as goal

abbrev pub invariant-loop-k : goal.invariant-loop-k
invariant-loop-k l = Segment l.initial.block l.at l.k (λ j. get_or l.src j 0) l.block
