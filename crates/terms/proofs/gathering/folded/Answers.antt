-- `terms::folded` meets its contract. The invariant: the first r rows of the block are there, all else is 0. Rests on Gathering's Rowing.
use Rattle.std.proofs.Common.{refl}
use Rattle.rows.specs.Plus.{plus-cong}
use Rattle.terms.specs.Gathering.{rowing-none, rowing-next, rowing-end, folded-row}
use native.Mathlib.Omega.{arith}
use Rattle.terms.proofs.gathering.folded.Goals as goal

pub loop-r-init : goal.loop-r-init
loop-r-init c = rowing-none

pub loop-r-preserved : goal.loop-r-preserved
loop-r-preserved c =
    let a = c.args in
    rowing-next c.loop-r.invariant c.loop-r-test.true (omega arith) refl
    (plus-cong (λ k h. folded-row a.l a.left.now a.q2.now c.loop-r.r k refl) c.add_columns.ensures)

pub returns : goal.returns
returns c = rowing-end c.loop-r.invariant c.loop-r-test.false
