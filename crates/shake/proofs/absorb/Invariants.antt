-- `shake::absorb` meets its contract. Invariant: to feed the rest of the input leads where feeding the whole of it led.
-- Rests on the laws of feeding a byte, and on what `add_byte` and `permute` ensure.
use Rattle.std.proofs.Common.{◌≡◌, ◌<◌, drop}
use Rattle.shake.specs.Feed.{fed}
use Rattle.shake.specs.FeedLaws.{at as sponge-at}
use Rattle.shake.proofs.absorb.Given as goal

abbrev pub invariant-loop-byte : goal.invariant-loop-byte
invariant-loop-byte l =
    (l.at < l.rate) × (fed l.rate (sponge-at l.lanes l.at) (drop l.byte-index l.input) ≡ fed l.rate (sponge-at l.initial.lanes l.initial.at) l.input)
