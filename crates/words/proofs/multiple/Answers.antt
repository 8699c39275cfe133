-- `words::multiple` meets its contract. The loop's invariant: w is the word of the multiples of the bytes from c on.
use Rattle.std.proofs.Common.{◌≡◌, sym, ap, ◌∙◌, ◌^◌, ◌<◌, rules}
use Rattle.field.specs.Laws.{mul-lt}
use Rattle.words.specs.Multiples.{multiple_from, multiple-none, multiple-next, multiple-end, multiple-room}
use native.Mathlib.Omega.{arith}
use Rattle.words.proofs.multiple.Goals as goal

pub loop-c-init : goal.loop-c-init
loop-c-init c = (search rules, sym (multiple-none _ _ _ _))

pub overflow_mul-w : goal.overflow_mul-w
overflow_mul-w c =
    let room : c.loop-c.w < 16 ^ 15 =
    rw c.loop-c.invariant.1 (multiple-room _ _ _ _ _ c.loop-c-test.true c.requires.1) in
    omega (arith, room)

pub overflow_add-w : goal.overflow_add-w
overflow_add-w c =
    let room : c.loop-c.w < 16 ^ 15 =
    rw c.loop-c.invariant.1 (multiple-room _ _ _ _ _ c.loop-c-test.true c.requires.1) in
    let small : c.from.result < 16 = rw (c.from.ensures, c.mul-e.ensures) (mul-lt _ _) in
    omega (arith, room, small)

pub loop-c-preserved : goal.loop-c-preserved
loop-c-preserved c =
    let inv = c.loop-c.invariant in
    (search rules, multiple-next _ _ _ _ _ c.loop-c-test.true inv.0 inv.1 (c.from.ensures ∙ c.mul-e.ensures))

pub returns : goal.returns
returns c = let none : c.loop-c.c ≡ 0 = omega arith in c.loop-c.invariant.1 ∙ ap (multiple_from _ _ _ _) none ∙ multiple-end _ _ _ _
