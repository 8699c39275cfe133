-- `matrix::filled` meets its contract. The invariant: the bytes so far are those of the block of each matrix whose entries f gives.
use Rattle.std.proofs.Common.{arith, ◌≡◌, ◌∙◌, sym, true, false}
use Rattle.matrix.specs.Block.{cell, inside, inside-row, inside-column}
use Rattle.matrix.specs.Filling.{filling-none, filling-cell, filling-end}
use Rattle.std.proofs.Common.{refl}
use Rattle.matrix.proofs.blocks.filled.Goals as goal
use Rattle.matrix.proofs.blocks.filled.Goals.{then-inside, else-inside}

pub loop-e-init : goal.loop-e-init
loop-e-init g c = λ M gives. filling-none _ refl

pub f-requires : goal.f-requires
f-requires g c =
    let t : inside c.args.l c.loop-e.e ≡ true = sym c.inside.ensures ∙ c.if-inside.true in
    c.requires _ _ (inside-row _ _ t) (inside-column _ _ t) (omega arith) (omega arith)

pub loop-e-preserved : goal.loop-e-preserved
unfolding cell
loop-e-preserved g c = λ M gives.
    filling-cell (c.loop-e.invariant M gives) c.loop-e-test.true
    (elim c.if-inside.branch [
      | then-inside w ↦
          let t : inside c.args.l c.loop-e.e ≡ true = sym c.inside.ensures ∙ w.if-inside.true in
          rw t (w.out-is ∙ gives _ _ _ (inside-row _ _ t) (inside-column _ _ t) (omega arith) (omega arith) w.f.ensures)
      | else-inside w ↦ let t : inside c.args.l c.loop-e.e ≡ false = sym c.inside.ensures ∙ w.if-inside.false in rw t w.out-is
    ])

pub returns : goal.returns
returns g c = λ M gives. filling-end (c.loop-e.invariant M gives) c.loop-e-test.false
