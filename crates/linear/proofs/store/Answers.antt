-- `linear::store` meets its contract: the elements of the row stand in row r, the right-hand element after them, and all else is as it was (`Segment`).
use native.Mathlib.Omega.{arith}
use Rattle.std.proofs.Common.{get_or-take, ◌≡◌, sym, ap, ◌∙◌, ◌+◌, ◌-◌, ◌*◌, get_or, rules}
use Rattle.ground.specs.Segment.{segment-next}
use Rattle.ground.specs.Pieces.{segment-put}
use Rattle.linear.specs.Row.{row_at, row-element, row-right}
use Rattle.linear.proofs.store.Goals as goal

pub returns : goal.returns
returns c =
    let a = c.args in
    let count : a.r * (a.n + 1) + a.n - a.r * (a.n + 1) ≡ a.n = omega arith in
    let copied = c.copy_from_slice.ensures.after in
    rw count
    (segment-next
    (segment-put (a.r * (a.n + 1)) a.n a.g.now _ (row_at a.row a.n) (omega arith) (search rules)
    (λ d h. ap (λ x. get_or x d 0) copied ∙ get_or-take a.n a.row.elements d 0 h ∙ sym (row-element a.row a.n d h)))
    (omega arith) _ (sym (row-right _ _)))
