-- `matrix::skip` meets its contract: each branch is one case of the pick.
use Rattle.std.proofs.Common.{lt-ltb, le-ltb}
use Rattle.matrix.specs.Determinant.{skip}
use Rattle.matrix.proofs.determinants.skip.Goals as goal

pub returns-then-i-r : goal.returns-then-i-r
unfolding skip
returns-then-i-r c = simp (lt-ltb _ _ c.if-i-r.true)

pub returns-else-i-r : goal.returns-else-i-r
unfolding skip
returns-else-i-r c = simp (le-ltb _ _ c.if-i-r.false)
