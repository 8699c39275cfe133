-- Each call puts its part before the text so far: after-put, after-decimal and after-word, from the line feed to the word.
use Rattle.std.proofs.Common.{[], ◌∷◌, ◌+◌, ◌≤◌, length}
use Rattle.response_format.specs.Text.{decimal, refused_text}
use Rattle.response_format.specs.Decimal.{digits-length}
use Rattle.responses.specs.Placed.{after-put, after-decimal, after-word}
use native.Mathlib.Omega.{arith}
use Rattle.responses.proofs.telling.refused_text.Goals as goal

pub returns : goal.returns
unfolding refused_text
returns c =
    let refused = c.args.n in
    let end = after-put [] 10 c.no_text.ensures (omega arith) c.put-end.ensures in
    let t0 = decimal refused (10 ∷ []) in
    let long : length t0 ≤ 20 + 1 = digits-length 20 refused (10 ∷ []) in
    let number = after-decimal (10 ∷ []) refused end (omega arith) (rw c.from.ensures at c.put_decimal-number.ensures) in
    after-word (114 ∷ 101 ∷ 102 ∷ 117 ∷ 115 ∷ 101 ∷ 100 ∷ 32 ∷ []) t0 number (omega arith) c.put_word.ensures
