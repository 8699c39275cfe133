-- `words::product_word` meets its contract. The loop's invariant: the first x columns of the matrices are done.
use Rattle.std.proofs.Common.{sym, rules}
use Rattle.field.specs.Field.{add}
use Rattle.words.specs.Lookups.{columns-none, columns-next}
use Rattle.words.proofs.product_word.Goals as goal

pub loop-x-init : goal.loop-x-init
loop-x-init c = (search rules, sym (columns-none _ _ _ _ _ _))

pub loop-x-preserved : goal.loop-x-preserved
unfolding add
loop-x-preserved c = (search rules, columns-next _ _ _ _ _ _ _ c.loop-x.invariant.1 c.looked_up-w.ensures)
