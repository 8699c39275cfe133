-- Invariant: the reader here, fed the rest, is the reader fed all. Rests on fed-next and fed-all.
use Rattle.std.proofs.Common.{sym, ap, ◌∙◌, ◌+◌, drop}
use Rattle.response_machine.specs.Reads.{fed}
use Rattle.response_machine.proofs.Reading.{fed-next, fed-all}
use Rattle.responses.proofs.reading.absorb.Goals as goal

pub loop-byte-preserved : goal.loop-byte-preserved
loop-byte-preserved c =
    let q = c.args.piece.now in
    ap (λ w. fed w.reader (drop (c.loop-byte.byte-index + 1) q)) c.step.ensures ∙ fed-next c.loop-byte.here c.loop-byte.byte-index q c.loop-byte-test.true ∙ c.loop-byte.invariant

pub returns : goal.returns
returns c =
    sym (fed-all c.loop-byte.here c.loop-byte.byte-index c.args.piece.now c.loop-byte-test.false) ∙ c.loop-byte.invariant
