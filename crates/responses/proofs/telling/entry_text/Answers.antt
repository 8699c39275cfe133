-- Each call puts its part before the text so far: after-put and after-decimal, from the line feed to the count.
use Rattle.std.proofs.Common.{[], ◌∷◌, suc, ◌+◌, ◌≤◌, length}
use Rattle.response_format.specs.Text.{decimal, entry_text}
use Rattle.response_format.specs.Decimal.{digits-length}
use Rattle.responses.specs.Placed.{after-put, after-decimal}
use native.Mathlib.Omega.{arith}
use Rattle.responses.proofs.telling.entry_text.Goals as goal

pub returns : goal.returns
unfolding entry_text
returns c =
    let e = c.args.e in
    let end = after-put [] 10 c.no_text.ensures (omega arith) c.put-end.ensures in
    let smlen = after-decimal (10 ∷ []) e.smlen end (omega arith) c.put_decimal-smlen.ensures in
    let t1 = decimal e.smlen (10 ∷ []) in
    let l1 : length t1 ≤ 20 + 1 = digits-length 20 e.smlen (10 ∷ []) in
    let gap1 = after-put t1 32 smlen (omega arith) c.put-before_smlen.ensures in
    let mlen = after-decimal (32 ∷ t1) e.mlen gap1 (omega arith) c.put_decimal-mlen.ensures in
    let t2 = decimal e.mlen (32 ∷ t1) in
    let l2 : length t2 ≤ 20 + suc (length t1) = digits-length 20 e.mlen (32 ∷ t1) in
    let gap2 = after-put t2 32 mlen (omega arith) c.put-before_mlen.ensures in
    after-decimal (32 ∷ t2) e.count gap2 (omega arith) c.put_decimal.ensures
