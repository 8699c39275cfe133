-- `matrix::inside` meets its contract: the two tests are those of the definition.
use Rattle.std.proofs.Common.{lt-ltb, le-ltb}
use Rattle.matrix.specs.Block.{inside}
use Rattle.matrix.proofs.blocks.inside.Goals as goal

pub returns-then-e-l : goal.returns-then-e-l
unfolding inside
returns-then-e-l c = simp (lt-ltb _ _ c.if-e-l.true)

pub returns-else-e-l : goal.returns-else-e-l
unfolding inside
returns-else-e-l c = simp (le-ltb _ _ c.if-e-l.false)
