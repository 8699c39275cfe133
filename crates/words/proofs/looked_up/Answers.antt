-- `words::looked_up` meets its contract. The loop's invariant: w is the sum of the first x products, each of two look-ups.
use Rattle.std.proofs.Common.{sym, rules}
use Rattle.field.specs.Field.{add}
use Rattle.words.specs.Lookups.{looked_up, lookups-none, lookups-next}
use Rattle.words.proofs.looked_up.Goals as goal

pub loop-x-init : goal.loop-x-init
loop-x-init c = (search rules, sym (lookups-none _ _ _ _ _ _))

pub loop-x-preserved : goal.loop-x-preserved
unfolding add looked_up
loop-x-preserved c = (search rules, rw c.from-p.ensures (lookups-next _ _ _ _ _ _ _ c.loop-x.invariant.1))
