-- Invariant: the first k bytes are written by the rule pair_at, the others are as they were. Rests on Segment.
use Rattle.std.proofs.Common.{◌≡◌, ◌≤◌, length}
use Rattle.ground.specs.Segment.{Segment}
use Rattle.response_format.specs.Decode.{pair_at}
use Rattle.response_lines.proofs.digits.decode_all.Given as goal

abbrev pub invariant-loop-k : goal.invariant-loop-k
invariant-loop-k l = (l.k ≤ length l.initial.out) × (length l.out ≡ length l.initial.out) × Segment l.initial.out 0 l.k (pair_at l.digits) l.out
