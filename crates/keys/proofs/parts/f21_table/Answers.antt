-- `keys::parts::f21_table` meets its contract: zeros gain P21, then T12 transposed times P11. Rests on Parts and tables' Rooms and Numbers.
use Rattle.std.proofs.Common.{◌*◌}
use Rattle.streams.specs.Numbers.{public-places, number-within}
use Rattle.sets.specs.Rooms.{kept-room, v-blocks-room}
use Rattle.keys.specs.KeyPlaces.{some-v, some-l}
use Rattle.keys.specs.Parts.{f21-filled}
use native.Mathlib.Omega.{arith}
use Rattle.sets.specs.Numbers.{numbers}
use Rattle.sets.proofs.Bounds.{bounds_of}
use Rattle.keys.proofs.parts.f21_table.Goals as goal

pub overflow_mul-w : goal.overflow_mul-w
overflow_mul-w c = omega (arith, (bounds_of c.args.set).products.ol)

pub p11_number-p11-requires : goal.p11_number-p11-requires
p11_number-p11-requires c =
    (c.requires.i_lt_o.0, some-v (bounds_of c.args.set))

pub add_p21-requires : goal.add_p21-requires
add_p21-requires c =
    record { i_lt_o = (c.requires.i_lt_o.0, c.requires.i_lt_o.1, kept-room c.requires.l_in_bounds.0 c.clear.auto.s) }

pub add_left-requires : goal.add_left-requires
add_left-requires c =
    let set = numbers c.args.set in
    let places = public-places (bounds_of c.args.set) c.requires.i_lt_o.0 c.requires.i_lt_o.1 in
    let within = number-within (set.v * set.v) (set.l * set.l) c.p11_number-p11.ensures.is places.p11 in
    let cleared = kept-room c.requires.l_in_bounds.0 c.clear.auto.s in
    let room = kept-room cleared c.add_p21.auto.f in record { l_in_bounds = (omega (arith, room), (omega (arith, c.requires.l_in_bounds.1), within)); l_bound = (v-blocks-room (bounds_of c.args.set), (some-l (bounds_of c.args.set), some-v (bounds_of c.args.set))) }

pub returns : goal.returns
returns c =
    let a = c.args in
    let cleared = c.clear.ensures in
    let p21 = c.add_p21.ensures in
    f21-filled (numbers a.set) a.public.now a.t.now a.i cleared c.p11_number-p11.ensures.is p21 c.add_left.ensures
