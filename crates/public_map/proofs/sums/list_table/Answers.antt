-- `public_map::sums::list_table` meets its contract: the powers of S, and their products with the list's matrices. Rests on MapPlaces.
use Rattle.std.proofs.Common.{◌∙◌}
use Rattle.sets.specs.Rooms.{powers_room, powers-room}
use Rattle.rows.specs.Zero.{length-zeros}
use Rattle.public_map.specs.MapPlaces.{few-variables}
use native.Mathlib.Omega.{arith}
use Rattle.sets.proofs.Bounds.{bounds_of}
use Rattle.public_map.proofs.sums.list_table.Goals as goal

pub overflow_add-n : goal.overflow_add-n
overflow_add-n c = omega (arith, few-variables (bounds_of c.args.set))

pub powers_of_s-requires : goal.powers_of_s-requires
powers_of_s-requires c = let b = bounds_of c.args.set in omega (arith, b.limits.l-most, powers-room b, length-zeros powers_room)

pub power_table-requires : goal.power_table-requires
power_table-requires c =
    let b = bounds_of c.args.set in
    let powers = c.powers_of_s.ensures in
    let long = powers.long ∙ length-zeros powers_room in
    record { l_nonzero = omega (arith, b.limits.l-least, c.requires.l_in_bounds, powers-room b); powers = powers.holds }

pub returns : goal.returns
returns c = c.power_table.ensures.holds
