-- `salvage::list_spoiled` meets its contract: the first b places hold what they are to. Rests on Listing.
use Rattle.std.proofs.Common.{refl, ap, length}
use Rattle.salvage.specs.Judging.{length-faults-of}
use Rattle.salvage.specs.Listing.{listing-spoilt, listing-stays, listing-end}
use native.Mathlib.Omega.{arith}
use Rattle.salvage.proofs.listing.list_spoiled.Goals as goal
use Rattle.salvage.proofs.listing.list_spoiled.Goals.{then-list-b-eq0+then-marks-from-eq1, else-list-b-eq0, else-list-b-eq0-via-then-list-b-eq0+else-marks-from-eq1, else-list-b-eq0-via-else-list-b-eq0}

pub bounds-list-b : goal.bounds-list-b
bounds-list-b c =
    omega (arith, c.loop-b.invariant.so_far.long, ap length c.requires.judged.holds, length-faults-of c.args.book.now)

pub bounds-list-b-then-marks-from-eq1 : goal.bounds-list-b-then-marks-from-eq1
bounds-list-b-then-marks-from-eq1 c =
    omega (arith, c.loop-b.invariant.so_far.long, ap length c.requires.judged.holds, length-faults-of c.args.book.now)

pub loop-b-preserved : goal.loop-b-preserved
loop-b-preserved c =
    elim c.if-list-b-eq0.branch [
      | then-list-b-eq0+then-marks-from-eq1 w ↦
          rw w.list-is
          (listing-spoilt c.loop-b.invariant (omega arith) refl c.requires.judged c.requires.spoilt c.block_at.ensures c.head_of-head.ensures w.if-list-b-eq0.true
          (rw w.from.ensures at w.if-marks-from-eq1.true))
      | else-list-b-eq0 w ↦
          rw w.list-is
          (listing-stays c.loop-b.invariant (omega arith) refl c.requires.judged c.requires.spoilt c.block_at.ensures c.head_of-head.ensures
          (elim w.else-list-b-eq0.branch [
            | else-list-b-eq0-via-then-list-b-eq0+else-marks-from-eq1 w' ↦ λ e. rw w'.from.ensures at w'.if-marks-from-eq1.false
            | else-list-b-eq0-via-else-list-b-eq0 w' ↦ λ e. absurd (w'.if-list-b-eq0.false e)
          ]))
    ]

pub returns : goal.returns
returns c = listing-end c.loop-b.invariant (omega arith) refl c.requires.judged
