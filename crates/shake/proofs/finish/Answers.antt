-- `shake::finish` meets its contract: one byte 9F where the block lacks one byte, otherwise 1F and, in the block's last byte, 80.
-- Rests on the two ways of `finished`.
use Rattle.std.proofs.Common.{sym, ap, ◌∙◌, ◌-◌}
use Rattle.keccak.specs.Keccak.{keccak_f}
use Rattle.shake.specs.Sponge.{add_byte}
use Rattle.shake.specs.FeedLaws.{finished-one, finished-more}
use Rattle.shake.proofs.finish.Goals as goal

pub returns-then-at-rate : goal.returns-then-at-rate
returns-then-at-rate c = c.permute.ensures ∙ ap keccak_f c.add_byte.ensures ∙ sym (finished-one _ _ _ c.if-at-rate.true)

pub returns : goal.returns
returns c =
    c.permute-2.ensures ∙ ap keccak_f (c.add_byte-3.ensures ∙ ap (λ s. add_byte s (c.args.rate - 1) 128) c.add_byte-2.ensures) ∙ sym (finished-more _ _ _ c.if-at-rate.false)
