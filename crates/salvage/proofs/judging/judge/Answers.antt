-- `salvage::judge` meets its contract: the first b blocks are judged, and `before` is the nearest good block before block b. Rests on Judging.
use Rattle.books.specs.Book.{whole_says}
use Rattle.salvage.specs.Judging.{fault-lt, next-good, next-bad, judges-next, judges-end}
use native.Mathlib.Omega.{arith}
use Rattle.std.proofs.Common.{refl, sym, ◌∙◌, ◌+◌}
use Rattle.ground.specs.AnswerLaws.{ok-number, err-number}
use Rattle.salvage.proofs.judging.judge.Goals as goal
use Rattle.salvage.proofs.judging.judge.Goals.{then-is_ok, else-is_ok}

pub overflow_cast-b : goal.overflow_cast-b
overflow_cast-b c = omega (arith, (whole_says c.args.book.now c.requires.is).1)

pub overflow_cast-list : goal.overflow_cast-list
overflow_cast-list c =
    omega (arith, c.number.ensures, c.fault_of-fault.ensures, fault-lt (c.loop-b.b + 1) c.loop-b.before c.block_at-block.result.now)

pub loop-b-preserved : goal.loop-b-preserved
loop-b-preserved c =
    let is = c.number.ensures ∙ c.fault_of-fault.ensures in
    elim c.if-is_ok.branch [
      | then-is_ok w ↦
          judges-next c.loop-b.invariant (omega arith) (omega (arith, c.requires.long)) c.block_at-block.ensures is w.head_of-before.ensures
          (next-good _ (c.number.ensures ∙ ok-number c.fault_of-fault.result (sym c.is_ok.ensures.value ∙ w.if-is_ok.true)) w.before-is)
      | else-is_ok w ↦
          judges-next c.loop-b.invariant (omega arith) (omega (arith, c.requires.long)) c.block_at-block.ensures is refl
          (next-bad _ (λ z. err-number c.fault_of-fault.result (sym c.is_ok.ensures.value ∙ w.if-is_ok.false) (sym c.number.ensures ∙ z)) w.before-is)
    ]

pub returns : goal.returns
returns c = judges-end c.loop-b.invariant (omega arith) c.requires.long
