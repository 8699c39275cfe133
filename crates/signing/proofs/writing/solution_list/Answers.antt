-- `signing::solution_list` meets its contract. T12 as a table, the vinegar unpacked, plus T12 times the oil, then the oil (`solution-from`).
-- A table that is lent again is as long as it was made: each call keeps its length (`kept`).
use Rattle.std.proofs.Common.{refl, sym}
use Rattle.sets.specs.Rooms.{kept-room, powers-room, private-room}
use Rattle.signing.specs.Emitting.{vinegar-within, counted, counted-from-start, vinegar-first, vinegar-rows, oil-rows, oil-last, solution-from}
use native.Mathlib.Omega.{arith}
use Rattle.sets.specs.Numbers.{numbers}
use Rattle.sets.proofs.Bounds.{bounds_of}
use Rattle.signing.proofs.writing.solution_list.Goals as goal

pub slice_bounds-powers_of_s-end : goal.slice_bounds-powers_of_s-end
slice_bounds-powers_of_s-end c = refl

pub powers_of_s-requires : goal.powers_of_s-requires
powers_of_s-requires c =
    let b = bounds_of c.args.set in
    (omega (arith, b.limits.l-most), powers-room b)

pub slice_bounds-private_table-end : goal.slice_bounds-private_table-end
slice_bounds-private_table-end c = refl

pub slice_bounds-private_table-end-2 : goal.slice_bounds-private_table-end-2
slice_bounds-private_table-end-2 c = sym c.powers_of_s.auto.sp

pub private_table-requires : goal.private_table-requires
private_table-requires c =
    let b = bounds_of c.args.set in
    let sp = c.powers_of_s in
    record { private_len = (c.requires.private_len.0, private-room b, kept-room (powers-room b) sp.auto.sp); powers = sp.ensures.holds }

pub unpack_all-requires : goal.unpack_all-requires
unpack_all-requires c =
    let b = bounds_of c.args.set in
    let n = c.vinegar_count-vinegar_elements.ensures in
    (vinegar-first b n c.requires.set_in_bounds.0, counted n (vinegar-within (numbers c.args.set) c.requires.private_len.1))

pub slice_bounds-add_oil-end : goal.slice_bounds-add_oil-end
slice_bounds-add_oil-end c = sym c.private_table.auto.t

pub add_oil-requires : goal.add_oil-requires
add_oil-requires c =
    let b = bounds_of c.args.set in
    let rows = kept-room (vinegar-rows b c.requires.set_in_bounds.0) c.unpack_all.auto.dst in
    record { l_in_bounds = (rows, (kept-room (private-room b) c.private_table.auto.t, oil-rows b c.requires.set_in_bounds.1)) }

pub add_scaled-requires : goal.add_scaled-requires
add_scaled-requires c =
    let b = bounds_of c.args.set in
    let n = c.vinegar_count-vinegar_elements.ensures in
    let m = c.unknowns-oil_elements.ensures in
    let room = kept-room (kept-room c.requires.set_in_bounds.0 c.unpack_all.auto.dst) c.add_oil.auto.u in
    (oil-last b n m room, counted-from-start m c.requires.set_in_bounds.1)

pub returns : goal.returns
returns c =
    solution-from c.args.oil.now c.private_table.ensures.holds c.vinegar_count-vinegar_elements.ensures c.unknowns-oil_elements.ensures
    c.requires.by_index
    c.unpack_all.ensures c.add_oil.ensures c.add_scaled.ensures
