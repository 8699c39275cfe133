-- Invariant: the reader here, fed the rest, is the reader fed all. Rests on fed-next and fed-all.
use Rattle.std.proofs.Common.{◌≡◌, drop}
use Rattle.response_machine.specs.Reads.{fed}
use Rattle.responses.proofs.reading.absorb.Given as goal

abbrev pub invariant-loop-byte : goal.invariant-loop-byte
invariant-loop-byte l = fed l.here (drop l.byte-index l.piece) ≡ fed l.initial.here l.piece
