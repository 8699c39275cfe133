-- `shake::absorb` meets its contract. Invariant: to feed the rest of the input leads where feeding the whole of it led.
-- Rests on the laws of feeding a byte, and on what `add_byte` and `permute` ensure.
use Rattle.std.proofs.Common.{◌≡◌, sym, ap, ap₂, ◌∙◌, ◌+◌, ◌<◌, get_or, drop}
use Rattle.keccak.specs.Keccak.{keccak_f}
use Rattle.shake.specs.Feed.{fed, fed_byte}
use Rattle.shake.specs.FeedLaws.{at as sponge-at, fed-none, fed-next, turned-full, turned-within}
use native.Mathlib.Omega.{arith}
use Rattle.shake.proofs.absorb.Goals as goal
use Rattle.shake.proofs.absorb.Goals.{then-at-rate, else-at-rate}

-- a turn feeds one byte
pub loop-byte-preserved : goal.loop-byte-preserved
unfolding fed_byte
loop-byte-preserved c =
    let stepped : sponge-at c.if-at-rate.lanes c.if-at-rate.at ≡ fed_byte c.args.rate (sponge-at c.loop-byte.lanes c.loop-byte.at) (get_or c.args.input.now c.loop-byte.byte-index 0) =
    elim c.if-at-rate.branch [
      | then-at-rate w ↦ ap₂ sponge-at (w.lanes-is ∙ w.permute-lanes.ensures ∙ ap keccak_f c.add_byte.ensures) w.at-is ∙ sym (turned-full _ _ _ w.if-at-rate.true)
      | else-at-rate w ↦ ap₂ sponge-at (w.lanes-is ∙ c.add_byte.ensures) w.at-is ∙ sym (turned-within _ _ _ w.if-at-rate.false)
    ] in
    let inside : c.if-at-rate.at < c.args.rate = elim c.if-at-rate.branch [ then-at-rate w ↦ omega arith | else-at-rate w ↦ omega arith ] in
    (inside, ap (λ s. fed c.args.rate s (drop (c.loop-byte.byte-index + 1) c.args.input.now)) stepped ∙ fed-next _ _ _ _ c.loop-byte-test.true ∙ c.loop-byte.invariant.1)

pub returns : goal.returns
returns c =
    record { sponge = sym (fed-none _ _ _ _ c.loop-byte-test.false) ∙ c.loop-byte.invariant.1; inside = c.loop-byte.invariant.0 }
