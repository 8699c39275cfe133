-- `matrix::search` meets its contract. The invariant: the original is m still, what is tried is m + a·S, and no earlier shift served (`Searching`).
use Rattle.std.proofs.Common.{refl, sym, ◌∙◌}
use Rattle.matrix.specs.Searching.{searching-stays, searching-start, next-searching, searching-found, searching-none}
use Rattle.ground.specs.AnswerLaws.{gives-value, gives-refusal}
use native.Mathlib.Omega.{arith}
use Rattle.matrix.proofs.invertible.search.Goals as goal

pub returns-then-determinant-ne0 : goal.returns-then-determinant-ne0
returns-then-determinant-ne0 c =
    let done = searching-stays _ _ (λ e. c.if-determinant-ne0.true (c.determinant.ensures ∙ e)) c.cut.ensures in
    rw (done.0, ← done.1) (gives-value refl)

pub loop-trial-init : goal.loop-trial-init
loop-trial-init c =
    (refl, searching-start (sym c.determinant.ensures ∙ c.if-determinant-ne0.false) c.shifted-first.ensures)

pub returns-then-trial-eq15 : goal.returns-then-trial-eq15
returns-then-trial-eq15 c =
    let zero = sym c.determinant-in-loop-trial.ensures ∙ c.if-determinant-ne0-2.false in
    let none = searching-none c.requires c.loop-trial.invariant.1 zero c.if-trial-eq15.true in
    rw none (gives-refusal _ refl)

pub next_trial-next-requires : goal.next_trial-next-requires
next_trial-next-requires c =
    let searching = c.loop-trial.invariant.1 in
    (c.requires, omega (arith, searching.high, c.if-trial-eq15.false))

pub loop-trial-smaller : goal.loop-trial-smaller
loop-trial-smaller c =
    let next = c.next_trial-next.ensures in
    omega (arith, next.a, c.loop-trial.invariant.1.high, c.if-trial-eq15.false)

pub loop-trial-preserved : goal.loop-trial-preserved
loop-trial-preserved c =
    let zero = sym c.determinant-in-loop-trial.ensures ∙ c.if-determinant-ne0-2.false in
    let next = c.next_trial-next.ensures in
    let searching = c.loop-trial.invariant in
    (next.original ∙ searching.0, next-searching c.requires searching zero c.if-trial-eq15.false next)

pub returns : goal.returns
returns c =
    let done = searching-found c.requires c.loop-trial.invariant.1 (λ e. c.if-determinant-ne0-2.true (c.determinant-in-loop-trial.ensures ∙ e)) in
    rw (done.0, ← done.1) (gives-value refl)
