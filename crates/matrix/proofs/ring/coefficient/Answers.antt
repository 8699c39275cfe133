-- `matrix::coefficient` meets its contract: the last coefficient goes by its rule, any other stays.
use Rattle.std.proofs.Common.{◌∙◌}
use Rattle.matrix.specs.RingElements.{coefficient-last, coefficient-other}
use Rattle.matrix.specs.Promises.{coefficients}
use Rattle.matrix.proofs.ring.coefficient.Goals as goal

pub returns-then-k-l : goal.returns-then-k-l
returns-then-k-l c = let a = c.args in coefficient-other a.l (coefficients a.a) a.k c.if-k-l.true

pub returns : goal.returns
returns c = let a = c.args in c.last_coefficient.ensures ∙ coefficient-last a.l (coefficients a.a) a.k c.if-k-l.false
