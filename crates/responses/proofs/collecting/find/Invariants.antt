-- Invariant: the search from here on finds what the whole search finds. Rests on seeks-stop, seeks-goes and seeks-over.
use Rattle.std.proofs.Common.{◌≡◌, drop}
use Rattle.response_machine.specs.Machine.{seeks}
use Rattle.responses.proofs.collecting.find.Given as goal

abbrev pub invariant-loop-at : goal.invariant-loop-at
invariant-loop-at l = seeks l.field l.left l.here l.line l.at (drop l.at l.file) ≡ seeks l.field l.initial.left l.initial.here l.initial.line l.initial.at (drop l.initial.at l.file)
