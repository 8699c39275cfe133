-- `public_map::evaluate` meets its contract: the two tables, and the equations from them (`map-values`).
use Rattle.std.proofs.Common.{◌∙◌}
use Rattle.rows.specs.Zero.{length-zeros}
use Rattle.sets.proofs.Bounds.{bounds_of}
use Rattle.sets.specs.Rooms.{list_powers_room, power_sums_room, list-powers-room, sums-room}
use Rattle.tables.specs.Unpacked.{list_of}
use Rattle.public_map.specs.Values.{map-values}
use native.Mathlib.Omega.{arith}
use Rattle.public_map.proofs.evaluate.Goals as goal

pub known-set-requires : goal.known-set-requires
known-set-requires c = c.requires.map_lent.bounds

pub list_table-requires : goal.list_table-requires
list_table-requires c =
    let fits = rw (← c.known-set.ensures) at c.requires.l_in_bounds in
    record { l_in_bounds = (fits.0, list-powers-room (bounds_of c.known-set.result)) }

pub all_sums-requires : goal.all_sums-requires
all_sums-requires c =
    let lent = rw (← c.known-set.ensures) at c.requires.map_lent in
    let w = c.list_table.auto.w ∙ length-zeros list_powers_room in
    record { l_in_bounds = (sums-room lent.bounds, omega (arith, list-powers-room lent.bounds)); public_len = (lent.public-long, lent.key-long) }

pub put_values-requires : goal.put_values-requires
put_values-requires c =
    let lent = rw (← c.known-set.ensures) at c.requires.map_lent in
    let fits = rw (← c.known-set.ensures) at c.requires.l_in_bounds in
    let sums = c.all_sums.auto.sums ∙ length-zeros power_sums_room in
    record { abq_lent = lent.abq-lent; l_in_bounds = (fits.1, omega (arith, sums-room lent.bounds)) }

pub returns : goal.returns
returns c =
    let lent = rw (← c.known-set.ensures) at c.requires.map_lent in
    rw (← c.known-set.ensures) (map-values lent (list_of c.known-set.result.l c.args.list.now) c.list_table.ensures c.all_sums.ensures c.put_values.ensures)
