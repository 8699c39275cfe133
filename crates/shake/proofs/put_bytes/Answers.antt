-- `shake::put_bytes` meets its contract: the first bytes of a lane are written into the part. Rests on ground's Pieces and on LaneBytes.
use native.Mathlib.Omega.{arith}
use Rattle.std.proofs.Common.{get_or-take, ◌≡◌, ap, ◌∙◌, ◌+◌, ◌-◌, get_or, rules}
use Rattle.ground.specs.Pieces.{segment-put}
use Rattle.shake.specs.LaneBytes.{lane-bytes-at}
use Rattle.shake.proofs.put_bytes.Goals as goal

pub returns : goal.returns
returns c =
    let a = c.args in
    let count : a.from + a.n - a.from ≡ a.n = omega arith in
    let bytes = c.copy_from_slice.ensures.after in
    rw count (segment-put a.from a.n a.out.now _ _ c.requires.0 (search rules) (λ d h. ap (λ b. get_or b d 0) bytes ∙ get_or-take _ _ _ _ h ∙ rw c.to_le_bytes.ensures (lane-bytes-at _ _ (omega arith))))
