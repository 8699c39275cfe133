-- `blocks::check_of` meets its contract: the sum of the place and the first k words, modulo 2^32. Rests on Steps.
use Rattle.std.proofs.Common.{◌≡◌, refl, ◌+◌, ◌%◌, ◌^◌, ap, ◌∙◌, arith}
use Rattle.blocks.specs.Block.{sum_words, check_of}
use Rattle.blocks.specs.Steps.{check-more}
use Rattle.blocks.proofs.block.check_of.Goals as goal

pub loop-k-init : goal.loop-k-init
unfolding sum_words
loop-k-init c = (omega arith, omega arith)

pub loop-k-preserved : goal.loop-k-preserved
loop-k-preserved c = (omega arith, check-more _ c.loop-k.k _ c.loop-k.invariant.1 c.word_at-sum.ensures refl)

pub returns : goal.returns
unfolding check_of
returns c =
    let at : c.loop-k.k ≡ 127 = omega arith in
    c.loop-k.invariant.1 ∙ ap (λ k. (c.args.place + sum_words k c.args.block.now) % 2 ^ 32) at
