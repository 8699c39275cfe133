-- `keys::parts::p22_table` meets its contract: zeros gain T12 transposed times P12, then F21 times T12. Rests on Parts and tables' Rooms and Numbers.
use Rattle.std.proofs.Common.{◌*◌}
use Rattle.streams.specs.Numbers.{public-places, number-within}
use Rattle.sets.specs.Rooms.{kept-room, o-blocks-room}
use Rattle.keys.specs.KeyPlaces.{some-v, some-o, some-l}
use Rattle.keys.specs.Parts.{p22-filled}
use native.Mathlib.Omega.{arith}
use Rattle.sets.specs.Numbers.{numbers}
use Rattle.sets.proofs.Bounds.{bounds_of}
use Rattle.keys.proofs.parts.p22_table.Goals as goal

pub overflow_mul-w : goal.overflow_mul-w
overflow_mul-w c = omega (arith, (bounds_of c.args.set).products.ol)

pub p12_number-p12-requires : goal.p12_number-p12-requires
p12_number-p12-requires c =
    (c.requires.i_lt_o.0, some-v (bounds_of c.args.set))

pub add_left-requires : goal.add_left-requires
add_left-requires c =
    let set = numbers c.args.set in
    let places = public-places (bounds_of c.args.set) c.requires.i_lt_o.0 c.requires.i_lt_o.1 in
    let within = number-within (set.v * set.o) (set.l * set.l) c.p12_number-p12.ensures.is places.p12 in
    let room = kept-room c.requires.l_in_bounds.0 c.clear.auto.s in
    record { l_in_bounds = (omega (arith, room), (c.requires.l_in_bounds.1, within)); l_bound = (o-blocks-room (bounds_of c.args.set), (some-l (bounds_of c.args.set), some-o (bounds_of c.args.set))) }

pub overflow_mul-v : goal.overflow_mul-v
overflow_mul-v c = omega (arith, (bounds_of c.args.set).products.vl)

pub add_times-requires : goal.add_times-requires
add_times-requires c =
    let cleared = kept-room c.requires.l_in_bounds.0 c.clear.auto.s in
    let room = kept-room cleared c.add_left.auto.dst in
    (omega (arith, room), (c.requires.l_in_bounds.2, c.requires.l_in_bounds.1))

pub returns : goal.returns
returns c =
    let a = c.args in
    let cleared = c.clear.ensures in
    let added = c.add_left.ensures in
    p22-filled (numbers a.set) a.public.now a.t.now a.f.now a.i cleared c.p12_number-p12.ensures.is added c.add_times.ensures
