-- `partial_sums::right::fill_right` meets its contract: the multiples of the rows of x are made first. Rests on words' Multiples.
use Rattle.std.proofs.Common.{◌*◌}
use Rattle.sets.specs.Rooms.{vinegar_rows}
use Rattle.rows.specs.Zero.{length-zeros}
use Rattle.partial_sums.specs.SumPlaces.{table-sizes}
use native.Mathlib.Omega.{arith}
use Rattle.sets.proofs.Bounds.{bounds_of}
use Rattle.partial_sums.proofs.right.fill_right.Goals as goal

pub overflow_mul-l : goal.overflow_mul-l
overflow_mul-l c = omega (arith, (table-sizes (bounds_of c.args.set)).ll)

pub multiply-requires : goal.multiply-requires
multiply-requires c =
    let sizes = table-sizes (bounds_of c.args.set) in
    (omega (arith, sizes.vl, length-zeros (vinegar_rows * 8)), (c.requires.public_len.1.0, omega (arith, sizes.ll)))

pub fill_by_multiples-requires : goal.fill_by_multiples-requires
fill_by_multiples-requires c =
    let multiply = c.multiply in
    record { right_len = c.requires.right_len; public_len = c.requires.public_len; l_in_bounds = (omega (arith, (table-sizes (bounds_of c.args.set)).vl, length-zeros (vinegar_rows * 8), multiply.auto.table), multiply.ensures.words) }
