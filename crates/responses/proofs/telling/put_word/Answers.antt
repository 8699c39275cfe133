-- Invariant: the bytes from i on stand before the text. Rests on Placed.
use Rattle.std.proofs.Common.{◌≡◌, sym, ◌+◌, ◌-◌, ◌∙◌, ap, length, drop, get_or, arith}
use Rattle.responses.specs.Placed.{put, put_all, put-all-none, put-all-next}
use Rattle.responses.proofs.telling.put_word.Goals as goal

pub loop-i-init : goal.loop-i-init
loop-i-init c = put-all-none c.args.word.now c.args.text (length c.args.word.now) (omega arith)

pub loop-i-preserved : goal.loop-i-preserved
loop-i-preserved c =
    let v = c.args.word.now in
    let i = c.loop-i.i - 1 in
    let e : i + 1 ≡ c.loop-i.i = omega arith in
    c.put-here.ensures
    ∙ ap (λ x. put x (get_or v i 0)) (c.loop-i.invariant ∙ ap (λ n. put_all (drop n v) c.args.text) (sym e))
    ∙ put-all-next v c.args.text i (omega arith)
