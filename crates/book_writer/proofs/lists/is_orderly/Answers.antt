-- `book_writer::is_orderly` meets its contract: the first i fields are in order. Rests on Lists.
use Rattle.book_writer.specs.Lists.{ordered-none, ordered-next, ordered-stop, ordered_end}
use Rattle.std.proofs.Common.{rules}
use Rattle.book_writer.proofs.lists.is_orderly.Goals as goal

pub loop-i-init : goal.loop-i-init
loop-i-init c = ordered-none _ _ _ _

pub returns-then-not-field_fits : goal.returns-then-not-field_fits
returns-then-not-field_fits c = ordered-stop c.loop-i.invariant (search rules) c.field_fits.ensures c.if-not-field_fits.true

pub loop-i-preserved : goal.loop-i-preserved
loop-i-preserved c = ordered-next c.loop-i.invariant (search rules) c.field_fits.ensures c.if-not-field_fits.false c.rank_of-rank.ensures

pub returns : goal.returns
returns c = ordered_end c.loop-i.invariant (search rules)
