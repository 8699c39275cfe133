-- `blocks::put` meets its contract: the first k bytes are put, then zeros. Rests on Made and on ground's Segment.
use Rattle.std.proofs.Common.{refl, ◌∙◌, ap, replicate, arith, rules}
use Rattle.ground.specs.Segment.{segment-none, segment-next}
use Rattle.blocks.specs.Made.{put-zeros, segment-at}
use Rattle.blocks.proofs.making.put.Goals as goal

pub loop-k-init : goal.loop-k-init
loop-k-init c = segment-none

pub bounds-block-at : goal.bounds-block-at
bounds-block-at c = omega (arith, c.loop-k.invariant.long)

pub loop-k-preserved : goal.loop-k-preserved
loop-k-preserved c = segment-next c.loop-k.invariant (omega arith) _ refl

pub returns : goal.returns
returns c =
    put-zeros c.args.src.now c.args.at c.args.n c.min-m.result c.requires c.min-m.ensures (segment-at c.loop-k.invariant (omega arith))
    (c.fill.ensures.after (λ y e. e) ∙ ap (λ k. replicate k 0) (search rules))
