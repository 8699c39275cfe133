-- Invariant: what the rest of the piece gives is what the whole part gives. Rests on feeds-tells, feeds-goes and feeds-end.
use Rattle.std.proofs.Common.{◌≡◌, sym, ◌∙◌}
use Rattle.response_machine.specs.Pieces.{feeds-tells, feeds-goes, feeds-end}
use native.Mathlib.Omega.{arith}
use Rattle.responses.proofs.reading.feed.Goals as goal

pub returns-then-telling : goal.returns-then-telling
returns-then-telling c = feeds-tells c.loop-at.here c.loop-at.at c.args.piece.now {s = c.step-stepped.result} c.loop-at-test.true c.step-stepped.ensures (sym c.telling.ensures ∙ c.if-telling.true) ∙ c.loop-at.invariant.1

pub loop-at-preserved : goal.loop-at-preserved
loop-at-preserved c =
    (omega arith, feeds-goes c.loop-at.here c.loop-at.at c.args.piece.now {s = c.step-stepped.result} c.loop-at-test.true c.step-stepped.ensures (sym c.telling.ensures ∙ c.if-telling.false) ∙ c.loop-at.invariant.1)

pub returns : goal.returns
returns c =
    let end : c.max.result ≡ c.loop-at.at = omega arith in
    rw end (feeds-end c.loop-at.here c.loop-at.at c.args.piece.now c.loop-at-test.false ∙ c.loop-at.invariant.1)
