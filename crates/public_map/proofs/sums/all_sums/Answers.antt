-- `public_map::sums::all_sums` meets its contract. The invariant: the first i matrix indices are done. Rests on MapSums.
use Rattle.std.proofs.Common.{refl, ◌∙◌, ◌*◌}
use Rattle.sets.specs.Rooms.{list_rows, list-rows}
use Rattle.rows.specs.Zero.{length-zeros}
use Rattle.tables.specs.Table.{cleared}
use Rattle.public_map.specs.MapPlaces.{few-variables}
use Rattle.public_map.specs.MapSums.{summing-none, summing-next, summing-end}
use native.Mathlib.Omega.{arith}
use Rattle.sets.proofs.Bounds.{bounds_of}
use Rattle.public_map.proofs.sums.all_sums.Goals as goal

pub overflow_mul-l : goal.overflow_mul-l
overflow_mul-l c = omega (arith, (bounds_of c.args.set).products.ll)

pub overflow_add-set : goal.overflow_add-set
overflow_add-set c = omega (arith, few-variables (bounds_of c.args.set))

pub overflow_mul-set : goal.overflow_mul-set
overflow_mul-set c = omega (arith, list-rows (bounds_of c.args.set))

pub multiply-requires : goal.multiply-requires
multiply-requires c =
    (omega (arith, list-rows (bounds_of c.args.set), length-zeros (list_rows * 8)), (c.requires.l_in_bounds.1, (bounds_of c.args.set).products.ll))

pub loop-i-init : goal.loop-i-init
loop-i-init c =
    let before = c.args.sums.now in
    (refl, summing-none (cleared before c.clear.ensures))

pub index_sums-requires : goal.index_sums-requires
index_sums-requires c =
    let cleared-length = c.clear.auto.s in
    let multiply = c.multiply in record { i_lt_o = c.loop-i-test.true; l_in_bounds = (omega (arith, c.requires.l_in_bounds.0, c.loop-i.invariant.0, cleared-length), c.requires.l_in_bounds.1); public_len = c.requires.public_len; l_in_bounds_2 = (omega (arith, list-rows (bounds_of c.args.set), length-zeros (list_rows * 8), multiply.auto.table), multiply.ensures.words) }

pub loop-i-smaller : goal.loop-i-smaller
loop-i-smaller c = omega (arith, c.loop-i-test.true)

pub loop-i-preserved : goal.loop-i-preserved
loop-i-preserved c =
    let inv = c.loop-i.invariant in
    let added = c.index_sums.ensures in
    (added.long ∙ inv.0, summing-next inv.1 c.loop-i-test.true added)

pub returns : goal.returns
returns c = summing-end c.loop-i.invariant.1 c.loop-i-test.false
