-- `salvage::keep` meets its contract: k of the first b blocks are kept, and what is kept of the others is still to come. Rests on Keeping.
use Rattle.std.proofs.Common.{refl, ap, length}
use Rattle.books.specs.Kept.{length-numbers}
use Rattle.salvage.specs.Keeping.{keeping_none, keep-asks, keeping-next, keeping-end}
use native.Mathlib.Omega.{arith}
use Rattle.salvage.proofs.keeping.keep.Goals as goal

pub loop-b-init : goal.loop-b-init
loop-b-init c = keeping_none

pub bounds-list-b : goal.bounds-list-b
bounds-list-b c = omega (arith, ap length c.requires.holds, length-numbers c.args.book.now)

pub keep_block-k-requires : goal.keep_block-k-requires
keep_block-k-requires c =
    keep-asks c.requires c.loop-b.invariant (omega arith) refl refl

pub loop-b-preserved : goal.loop-b-preserved
loop-b-preserved c =
    keeping-next c.requires c.loop-b.invariant (omega arith) refl refl c.keep_block-k.ensures

pub returns : goal.returns
returns c = keeping-end c.requires c.loop-b.invariant (omega arith) refl
