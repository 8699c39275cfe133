-- `blocks::check_of` meets its contract: the sum of the place and the first k words, modulo 2^32. Rests on Steps.
use Rattle.std.proofs.Common.{◌≡◌, ◌+◌, ◌%◌, ◌^◌, ◌≤◌}
use Rattle.blocks.specs.Block.{sum_words}
use Rattle.blocks.proofs.block.check_of.Given as goal

abbrev pub invariant-loop-k : goal.invariant-loop-k
invariant-loop-k l = (l.k ≤ 127) × (l.sum ≡ (l.place + sum_words l.k l.block) % 2 ^ 32)
