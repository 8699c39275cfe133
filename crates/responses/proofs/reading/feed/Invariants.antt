-- Invariant: what the rest of the piece gives is what the whole part gives. Rests on feeds-tells, feeds-goes and feeds-end.
use Rattle.std.proofs.Common.{◌≡◌, ◌≤◌, max, length, drop}
use Rattle.response_machine.specs.Machine.{feeds}
use Rattle.responses.proofs.reading.feed.Given as goal

abbrev pub invariant-loop-at : goal.invariant-loop-at
invariant-loop-at l = (l.at ≤ max l.from (length l.piece)) × (feeds l.here l.at (drop l.at l.piece) ≡ feeds l.initial.here l.from (drop l.from l.piece))
