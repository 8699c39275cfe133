-- `terms::gathered_block` meets its contract: the sum over x stands in `left`, and folding it gives both sums (`gathered-is`).
use Rattle.std.proofs.Common.{◌≡◌, ◌∙◌, ◌≤◌, length, rules}
use native.Mathlib.Nat.{mul-le-mul}
use Rattle.sets.specs.Sets.{most_l}
use Rattle.sets.specs.Rooms.{powers_room}
use Rattle.rows.specs.Zero.{zeros, length-zeros, zero-at}
use Rattle.matrix.specs.Block.{block_same, stride}
use Rattle.terms.specs.SumsPlaces.{sums-start}
use Rattle.terms.specs.Gathering.{gathered-is}
use native.Mathlib.Omega.{arith}
use Rattle.terms.proofs.gathering.gathered_block.Goals as goal

pub overflow_mul-l : goal.overflow_mul-l
overflow_mul-l c = let small : c.args.l ≤ most_l = omega arith in omega (arith, mul-le-mul small small)

pub overflow_mul-l-2 : goal.overflow_mul-l-2
overflow_mul-l-2 c = let small : c.args.l ≤ most_l = omega arith in omega (arith, mul-le-mul (mul-le-mul small small) small)

pub overflow_mul-index : goal.overflow_mul-index
overflow_mul-index c = omega (arith, sums-start c.args.l c.args.index (length c.args.sums.now) c.requires.1)

pub add_columns-requires : goal.add_columns-requires
add_columns-requires c =
    let small : c.args.l ≤ most_l = omega arith in
    let long : length c.args.q1 ≡ stride = search rules in
    record { n_in_bounds = omega (arith, mul-le-mul (mul-le-mul small small) small, c.requires.1); by_index = λ x h. omega arith }

pub folded-requires : goal.folded-requires
folded-requires c =
    let small : c.args.l ≤ most_l = omega arith in
    let left-long = c.add_columns.ensures.long ∙ length-zeros powers_room in
    let q2-long : length c.args.q2 ≡ stride = search rules in
    omega (arith, mul-le-mul (mul-le-mul small small) small)

pub returns : goal.returns
returns c =
    let a = c.args in
    c.folded.ensures
    ∙ block_same (gathered-is a.l a.sums.now a.index a.q1 _ a.q2 {d = zeros powers_room} (zero-at powers_room) c.add_columns.ensures)
