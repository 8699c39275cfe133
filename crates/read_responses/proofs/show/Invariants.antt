-- Invariant: the reader here, fed the rest of the piece, is the reader fed all. The place goes up.
use Rattle.std.proofs.Common.{◌≡◌, ◌-◌, length, drop}
use Rattle.response_machine.specs.Reads.{fed}
use Rattle.read_responses.proofs.show.Given as goal

abbrev pub invariant-loop-at : goal.invariant-loop-at
invariant-loop-at g l = fed l.here (drop l.at l.piece) ≡ fed l.initial.here (drop l.initial.at l.piece)

abbrev pub decreases-loop-at : goal.decreases-loop-at
decreases-loop-at g l = length l.piece - l.at
