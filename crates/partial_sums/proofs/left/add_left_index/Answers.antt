-- `partial_sums::left::add_left_index` meets its contract: the sums with P12 are added, then those with P11 times T12. Rests on tables' Sums and Places.
use Rattle.std.proofs.Common.{◌*◌, length}
use Rattle.sets.specs.Rooms.{vinegar_powers_room}
use Rattle.rows.specs.Zero.{length-zeros, zero-at}
use Rattle.rows.specs.PlusRows.{rows_then}
use Rattle.sets.specs.Rooms.{kept-room}
use Rattle.streams.specs.Numbers.{PublicPlaces, public-places, number-within}
use Rattle.tables.specs.Sums.{left_at, zero-rows, times-loaded}
use Rattle.partial_sums.specs.SumPlaces.{TableSizes, table-sizes}
use native.Mathlib.Omega.{arith}
use Rattle.sets.specs.Numbers.{numbers}
use Rattle.sets.proofs.Bounds.{bounds_of}
use Rattle.partial_sums.proofs.left.add_left_index.Goals as goal

pub add_left-requires : goal.add_left-requires
add_left-requires c =
    let places : PublicPlaces (numbers c.args.set) c.args.i (length c.args.public.now) = public-places (bounds_of c.args.set) c.requires.i_lt_o.0 c.requires.public_len.0 in
    let sizes : TableSizes (numbers c.args.set) = table-sizes (bounds_of c.args.set) in
    let set = numbers c.args.set in
    let within = number-within (set.v * set.v) (set.l * set.l) c.p11_number-p11.ensures.is places.p11 in
    record { l_in_bounds = (omega (arith, sizes.llvl, length-zeros vinegar_powers_room), (c.requires.public_len.1.0, within)); l_bound = (sizes.lvl, (sizes.positive-l, sizes.positive-v)) }

pub add_left-requires-2 : goal.add_left-requires-2
add_left-requires-2 c =
    let places : PublicPlaces (numbers c.args.set) c.args.i (length c.args.public.now) = public-places (bounds_of c.args.set) c.requires.i_lt_o.0 c.requires.public_len.0 in
    let sizes : TableSizes (numbers c.args.set) = table-sizes (bounds_of c.args.set) in
    let set = numbers c.args.set in
    let within = number-within (set.v * set.o) (set.l * set.l) c.p12_number-p12.ensures.is places.p12 in
    record { l_in_bounds = (c.requires.i_lt_o.1, (c.requires.public_len.1.0, within)); l_bound = (sizes.lol, (sizes.positive-l, sizes.positive-o)) }

pub add_times-requires : goal.add_times-requires
add_times-requires c =
    let sizes : TableSizes (numbers c.args.set) = table-sizes (bounds_of c.args.set) in
    let z-room = kept-room (kept-room sizes.llvl (length-zeros vinegar_powers_room)) c.add_left.auto.dst in
    (kept-room c.requires.i_lt_o.1 c.add_left-2.auto.dst, (z-room, c.requires.public_len.1.1))

pub returns : goal.returns
returns c =
    let a = c.args in
    let set = numbers a.set in
    let p11-is = c.p11_number-p11.ensures.is in
    let p12-is = c.p12_number-p12.ensures.is in
    let first = c.add_left.ensures in
    let second = c.add_left-2.ensures in
    let p11 = left_at set.l set.v a.x.now (set.l * set.l) a.public.now set.v p11-is first in
    let p12 = left_at set.l set.v a.x.now (set.l * set.l) a.public.now set.o p12-is second in
    rows_then p12 (times-loaded (set.v * set.l) a.t.now c.add_times.ensures (zero-rows (zero-at vinegar_powers_room) p11))
