-- `linear::eliminate` meets its contract. The invariant: the first k columns are the identity's, and the same vectors are sent to zero as at entry (`Progress`).
-- The answers are `solved` and `singular`.
use Rattle.std.proofs.Common.{arith}
use Rattle.std.proofs.lemmas.Grind.{common_steps}
use Rattle.linear.specs.Progress.{progress-none, progress-next, progress-area, solved, singular}
use Rattle.linear.proofs.eliminate.Goals as goal

pub loop-k-init : goal.loop-k-init
loop-k-init c = progress-none c.requires

pub pivot-requires : goal.pivot-requires
pivot-requires c = (progress-area c.requires c.loop-k.invariant, c.loop-k-test.true)

pub returns-in_default : goal.returns-in_default
returns-in_default c = singular c.loop-k.invariant c.loop-k-test.true (grind (arith, common_steps))

pub reduce-requires : goal.reduce-requires
reduce-requires c =
    let inv = c.loop-k.invariant in
    (progress-area c.requires inv, (inv.stepped.reduced, grind (arith, common_steps)))

pub loop-k-preserved : goal.loop-k-preserved
loop-k-preserved c = progress-next c.loop-k.invariant c.reduce.ensures

pub returns : goal.returns
returns c = solved c.requires c.loop-k.invariant c.loop-k-test.false
