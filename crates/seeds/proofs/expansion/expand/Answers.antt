-- `seeds::expansion::expand` meets its contract. Invariant `Run`: `at` bytes of the run are written, and the next is byte `skip` of block `number`.
-- Rests on the laws of Expansion.
use borrow.Rule.Slice.PartMut.{put_mid}
use Rattle.std.proofs.Common.{get_or-take, get_or-drop, ◌≡◌, ap, ◌∙◌, List, ℕ, ◌+◌, ◌-◌, ◌≤◌, length, get_or, take, drop, rules}
use Rattle.ground.specs.Segment.{Segment}
use Rattle.ground.specs.Pieces.{segment-put}
use Rattle.seeds.specs.Expansion.{run_none, run-next, run-number, run_end}
use native.Mathlib.Omega.{arith}
use Rattle.seeds.proofs.expansion.expand.Goals as goal

-- a part of a list that holds a part of another
copied : (at n skip : ℕ) (s bytes : List ℕ) {part : List ℕ} → at + n ≤ length s → length part ≡ n → part ≡ take (skip + n - skip) (drop skip bytes)
    → Segment s at n (λ k. get_or bytes (skip + k) 0) (put_mid at (at + n - at) s part)
copied at n skip s bytes {part} fits long is =
    let count : at + n - at ≡ n = omega arith in
    let same : skip + n - skip ≡ n = omega arith in
    rw count
    (segment-put at n s part _ fits long
    (λ d h. ap (λ b. get_or b d 0) (is ∙ ap (λ m. take m (drop skip bytes)) same) ∙ get_or-take n (drop skip bytes) d 0 h ∙ get_or-drop skip bytes d 0))

pub loop-at-init : goal.loop-at-init
loop-at-init c = run_none

pub overflow_add-number : goal.overflow_add-number
overflow_add-number c = omega (arith, run-number c.loop-at.invariant c.loop-at-test.true)

pub loop-at-preserved : goal.loop-at-preserved
loop-at-preserved c =
    run-next c.loop-at.invariant c.loop-at-test.true c.block-bytes.ensures c.min-n.ensures
    (copied c.loop-at.at c.min-n.result c.loop-at.skip c.loop-at.out c.block-bytes.result (search rules) (search rules) c.copy_from_slice.ensures.after)

pub returns : goal.returns
returns c = run_end c.loop-at.invariant c.loop-at-test.false
