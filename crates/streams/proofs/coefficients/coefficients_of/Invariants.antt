-- `streams::coefficients_of` meets its contract. The invariant: the first p places hold the first p coefficients, the others 0.
use Rattle.std.proofs.Common.{◌≤◌}
use Rattle.matrix.specs.Block.{stride}
use Rattle.ground.specs.Segment.{Segment}
use Rattle.rows.specs.Zero.{zeros}
use Rattle.matrix.specs.RingElements.{coefficient}
use Rattle.scheme.specs.Streams.{group_of}
use Rattle.streams.proofs.coefficients.coefficients_of.Given as goal

abbrev pub invariant-loop-p : goal.invariant-loop-p
invariant-loop-p l = (l.p ≤ l.l) × Segment (zeros stride) 0 l.p (coefficient l.l (group_of l.l l.stream l.group)) l.out
