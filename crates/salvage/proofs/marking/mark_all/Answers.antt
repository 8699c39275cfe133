-- `salvage::mark_all` meets its contract: what is marked so far, and what the blocks from b on spoil, is all that is spoiled. Rests on Marking.
use Rattle.std.proofs.Common.{◌≡◌, refl, ap}
use Rattle.std.proofs.Common.{length, get_or, eqb}
use Rattle.salvage.specs.Judging.{length-faults-of, next-good, next-bad}
use Rattle.salvage.specs.Marking.{marking-none, marking-next, marking-end}
use native.Mathlib.Omega.{arith}
use Rattle.ground.specs.Pick.{pick}
use Rattle.salvage.proofs.marking.mark_all.Goals as goal
use Rattle.salvage.proofs.marking.mark_all.Goals.{then-fault-eq0, else-fault-eq0}

pub loop-b-init : goal.loop-b-init
loop-b-init c = marking-none c.requires

pub bounds-list-b : goal.bounds-list-b
bounds-list-b c = omega (arith, ap length c.requires.holds, length-faults-of c.args.book.now)

pub loop-b-preserved : goal.loop-b-preserved
loop-b-preserved c =
    let next = elim c.if-fault-eq0.branch as (λ b. c.if-fault-eq0.before ≡ pick (eqb (get_or c.args.list.now c.loop-b.b 0) 0) c.head_of-head.result c.loop-b.before) [
      | then-fault-eq0 w ↦ next-good _ w.if-fault-eq0.true w.before-is
      | else-fault-eq0 w ↦ next-bad _ w.if-fault-eq0.false w.before-is
    ] in
    marking-next c.loop-b.invariant (omega arith) refl c.requires.holds refl c.block_at.ensures c.head_of-head.ensures c.mark_block.ensures next

pub returns : goal.returns
returns c = marking-end c.loop-b.invariant (omega arith) refl
