-- `linear::factor` meets its contract: 0 for row k, else the entry in column k (`factor-here`, `factor-other`).
use Rattle.std.proofs.Common.{sym, ◌∙◌}
use Rattle.linear.specs.System.{at}
use Rattle.linear.specs.Step.{factor-here, factor-other}
use Rattle.linear.proofs.factor.Goals as goal

pub returns-then-r-k : goal.returns-then-r-k
returns-then-r-k c = let a = c.args in cc (factor-here a.k (at a.g.now a.n))

pub returns-else-r-k : goal.returns-else-r-k
returns-else-r-k c = c.entry.ensures ∙ sym (factor-other _ _ _ c.if-r-k.false)
