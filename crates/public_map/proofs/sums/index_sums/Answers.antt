-- `public_map::sums::index_sums` meets its contract. The invariant: the rows have gained the terms of the first j. Rests on MapSums and MapPlaces.
use Rattle.sets.specs.Rooms.{powers_room}
use Rattle.rows.specs.Zero.{length-zeros}
use Rattle.sets.specs.Bounds.{Bounds}
use Rattle.public_map.specs.MapPlaces.{index-within, block-row-within, few-variables, IndexPlace, index-place}
use Rattle.public_map.specs.MapSums.{index-none, index-next, index-end}
use native.Mathlib.Omega.{arith}
use Rattle.sets.specs.Numbers.{numbers}
use Rattle.sets.proofs.Bounds.{bounds_of}
use Rattle.public_map.proofs.sums.index_sums.Goals as goal

pub overflow_add-n : goal.overflow_add-n
overflow_add-n c =
    let bounds : Bounds (numbers c.args.set) = (bounds_of c.args.set) in
    omega (arith, few-variables (bounds))

pub overflow_mul-at : goal.overflow_mul-at
overflow_mul-at c =
    let bounds : Bounds (numbers c.args.set) = (bounds_of c.args.set) in
    let place : IndexPlace c.args.set.l c.args.i = index-place (bounds) c.requires.i_lt_o in
    omega (arith, place.square)

pub overflow_mul-at-2 : goal.overflow_mul-at-2
overflow_mul-at-2 c =
    let bounds : Bounds (numbers c.args.set) = (bounds_of c.args.set) in
    let place : IndexPlace c.args.set.l c.args.i = index-place (bounds) c.requires.i_lt_o in
    omega (arith, place.rows)

pub overflow_mul-at-3 : goal.overflow_mul-at-3
overflow_mul-at-3 c =
    let bounds : Bounds (numbers c.args.set) = (bounds_of c.args.set) in
    let place : IndexPlace c.args.set.l c.args.i = index-place (bounds) c.requires.i_lt_o in
    omega (arith, place.square)

pub overflow_mul-at-4 : goal.overflow_mul-at-4
overflow_mul-at-4 c =
    let bounds : Bounds (numbers c.args.set) = (bounds_of c.args.set) in
    let place : IndexPlace c.args.set.l c.args.i = index-place (bounds) c.requires.i_lt_o in
    omega (arith, place.place)

pub loop-j-init : goal.loop-j-init
loop-j-init c = (omega arith, length-zeros powers_room, index-none)

pub slice_bounds-map_rows-end : goal.slice_bounds-map_rows-end
slice_bounds-map_rows-end c = omega (arith, c.loop-j.invariant.1)

pub map_rows-requires : goal.map_rows-requires
map_rows-requires c =
    let bounds : Bounds (numbers c.args.set) = (bounds_of c.args.set) in
    let y-long = c.loop-j.invariant.1 in
    record { i_lt_o = (c.requires.i_lt_o, c.loop-j-test.true); l_in_bounds = (omega (arith, bounds.products.lll, y-long), c.requires.l_in_bounds_2.0); public_len = c.requires.public_len }

pub slice_bounds-add_power_sum-end : goal.slice_bounds-add_power_sum-end
slice_bounds-add_power_sum-end c = omega (arith, c.loop-j.invariant.1, c.map_rows.auto.y)

pub add_power_sum-requires : goal.add_power_sum-requires
add_power_sum-requires c =
    let bounds : Bounds (numbers c.args.set) = (bounds_of c.args.set) in
    let inv = c.loop-j.invariant in
    let l = c.args.set.l in (
      omega (arith, index-within l c.requires.i_lt_o c.requires.l_in_bounds.0, inv.2.long),
      (block-row-within l c.loop-j-test.true c.requires.l_in_bounds.1, omega (arith, bounds.products.lll, inv.1, c.map_rows.auto.y)),
    )

pub loop-j-smaller : goal.loop-j-smaller
loop-j-smaller c = omega (arith, c.loop-j-test.true)

pub loop-j-preserved : goal.loop-j-preserved
loop-j-preserved c =
    let inv = c.loop-j.invariant in
    let test = c.loop-j-test.true in
    let mapped = c.map_rows in
    let of-w = c.requires.l_in_bounds_2.1 in
    (omega (arith, test), omega (arith, inv.1, mapped.auto.y), index-next inv.2 test (mapped.ensures _ of-w) c.add_power_sum.ensures)

pub returns : goal.returns
returns c = index-end c.loop-j.invariant.2 c.loop-j.invariant.0 c.loop-j-test.false
