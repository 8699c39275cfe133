-- Invariant: the search from here on finds what the whole search finds. Rests on seeks-stop, seeks-goes and seeks-over.
use Rattle.std.proofs.Common.{rules, Err, eqb, get_or, eq-eqb, ne_eqb, ◌≡◌, refl, sym, ap, ap₂, ◌∙◌, ◌+◌, drop}
use Rattle.response_machine.specs.Machine.{nowhere, seeks}
use Rattle.response_machine.proofs.Seeks.{seeks-stop, seeks-goes, seeks-over}
use Rattle.ground.specs.Pick.{pick}
use Rattle.responses.proofs.collecting.find.Goals as goal
use Rattle.responses.proofs.collecting.find.Goals.{then-byte-eq10, else-byte-eq10}

pub loop-at-init : goal.loop-at-init
loop-at-init c = refl

pub returns-then-is_here : goal.returns-then-is_here
returns-then-is_here c =
    let a = c.args in
    let file = a.file.now in
    seeks-stop a.field c.loop-at.left c.loop-at.here c.loop-at.line c.loop-at.at file c.loop-at-test.true c.step-stepped.ensures
    (sym c.is_here.ensures ∙ c.if-is_here.true)
    ∙ c.loop-at.invariant
    ∙ ap (λ r. seeks a.field a.entry r 0 0 file) c.start-here.ensures

pub loop-at-preserved : goal.loop-at-preserved
loop-at-preserved c =
    let a = c.args in
    let file = a.file.now in
    let line : c.if-byte-eq10.line ≡ pick (eqb (get_or file c.loop-at.at 0) 10) (c.loop-at.at + 1) c.loop-at.line
    = elim c.if-byte-eq10.branch [
      | then-byte-eq10 w ↦ w.line-is ∙ sym (rw (eq-eqb _ 10 w.if-byte-eq10.true))
      | else-byte-eq10 w ↦ w.line-is ∙ sym (rw (ne_eqb _ 10 w.if-byte-eq10.false))
    ] in
    ap₂ (λ x y. seeks a.field x c.step-stepped.result.reader y (c.loop-at.at + 1) (drop (c.loop-at.at + 1) file)) c.passing-left.ensures line
    ∙ seeks-goes a.field c.loop-at.left c.loop-at.here c.loop-at.line c.loop-at.at file c.loop-at-test.true c.step-stepped.ensures
    (sym c.is_here.ensures ∙ c.if-is_here.false)
    ∙ c.loop-at.invariant

pub returns-in_err-end : goal.returns-in_err-end
returns-in_err-end c =
    let a = c.args in
    let file = a.file.now in
    let is : c.from_residual.result ≡ Err c.in_err-end.field-0.0 = search rules in
    is
    ∙ ap nowhere (sym c.in_err-end.was ∙ c.end.ensures)
    ∙ seeks-over a.field c.loop-at.left c.loop-at.here c.loop-at.line c.loop-at.at file c.loop-at-test.false
    ∙ c.loop-at.invariant
    ∙ ap (λ r. seeks a.field a.entry r 0 0 file) c.start-here.ensures

pub returns : goal.returns
returns c =
    let a = c.args in
    let file = a.file.now in
    ap nowhere (sym c.in_ok-end.was ∙ c.end.ensures)
    ∙ seeks-over a.field c.loop-at.left c.loop-at.here c.loop-at.line c.loop-at.at file c.loop-at-test.false
    ∙ c.loop-at.invariant
    ∙ ap (λ r. seeks a.field a.entry r 0 0 file) c.start-here.ensures
