-- Invariant: the digits that are left to put before the text so far make the whole. Rests on digits-stop, digits-go and digits-out.
use Rattle.std.proofs.Common.{◌≡◌, ◌+◌, ◌-◌, ap, ◌∙◌, arith}
use Rattle.responses.specs.Placed.{put, digits-stop, digits-go, digits-out}
use Rattle.responses.proofs.telling.put_decimal.Goals as goal

pub loop-preserved : goal.loop-preserved
loop-preserved c =
    let left : 20 - (c.loop.counter + 1) ≡ 20 - c.loop.counter - 1 = omega arith in
    rw left
    (digits-go (20 - c.loop.counter) c.loop.rest c.loop.here (c.put-here.ensures ∙ ap (put c.loop.here) c.last_digit.ensures) c.loop.invariant (omega arith)
    c.if-rest-eq0.false)

pub returns-then-rest-eq0 : goal.returns-then-rest-eq0
returns-then-rest-eq0 c =
    digits-stop (20 - c.loop.counter) c.loop.rest c.loop.here (c.put-here.ensures ∙ ap (put c.loop.here) c.last_digit.ensures) c.loop.invariant (omega arith)
    c.if-rest-eq0.true

pub returns-after-loop : goal.returns-after-loop
returns-after-loop c = digits-out (20 - c.loop.counter) c.loop.rest c.loop.here c.loop.invariant (omega arith)
