-- The measures are 2n + 1 and 2n: a cofactor of size n is a determinant of size n - 1. The invariant: the sum so far is that of the column's first r terms (`column`).
use Rattle.std.proofs.Common.{◌≡◌, ◌+◌, ◌≤◌}
use Rattle.matrix.specs.Block.{view}
use Rattle.matrix.specs.Steps.{column}
use Rattle.matrix.proofs.determinants.+cofactor_determinant.Given as goal

abbrev pub decreases-cofactor : goal.decreases-cofactor
decreases-cofactor l = l.n + l.n

abbrev pub decreases-determinant : goal.decreases-determinant
decreases-determinant l = l.n + l.n + 1

abbrev pub invariant-determinant-loop-r : goal.invariant-determinant-loop-r
invariant-determinant-loop-r l = (l.r ≤ l.n) × (l.sum ≡ column l.n (view l.m) l.r)
