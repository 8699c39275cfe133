-- Invariant: the reader here, fed the rest of the piece, is the reader fed all. Rests on part-fed, part-moves and fed-all.
use Rattle.std.proofs.Common.{refl, sym, ◌∙◌}
use Rattle.response_machine.proofs.Reading.{part-fed, part-moves, fed-all}
use native.Mathlib.Omega.{arith}
use Rattle.read_responses.proofs.show.Goals as goal

pub loop-at-init : goal.loop-at-init
loop-at-init g c = refl

pub loop-at-smaller : goal.loop-at-smaller
loop-at-smaller g c = let q = c.args.piece.now in omega (arith, part-moves c.loop-at.here c.loop-at.at q c.feed-part.ensures c.loop-at-test.true, c.loop-at-test.true)

pub loop-at-preserved : goal.loop-at-preserved
loop-at-preserved g c = let q = c.args.piece.now in part-fed c.loop-at.here c.loop-at.at q c.feed-part.ensures ∙ c.loop-at.invariant

pub returns : goal.returns
returns g c = sym (fed-all c.loop-at.here c.loop-at.at c.args.piece.now c.loop-at-test.false) ∙ c.loop-at.invariant
