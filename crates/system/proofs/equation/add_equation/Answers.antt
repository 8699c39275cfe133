-- `system::equation::add_equation` meets its contract: the rows made of the products of all terms, then the last column. Rests on Equation.
use Rattle.rows.specs.Zero.{length-zeros, zero-at}
use Rattle.rows.specs.PlusRows.{rows_then}
use Rattle.tables.specs.Sums.{zero-rows}
use Rattle.partial_sums.specs.SumPlaces.{table-sizes}
use Rattle.system.specs.Sides.{products_room}
use Rattle.system.specs.Equation.{equation-rows, target-rows, products-fit}
use native.Mathlib.Omega.{arith}
use Rattle.sets.proofs.Bounds.{bounds_of}
use Rattle.system.proofs.equation.add_equation.Goals as goal

pub add_terms-known-requires-clause-product_rooms : goal.add_terms-known-requires-clause-product_rooms
add_terms-known-requires-clause-product_rooms c =
    let fit = products-fit (bounds_of c.args.set) in
    record { lefts-fit = omega (arith, fit); rights-fit = omega (arith, fit) }

pub add_rows-requires : goal.add_rows-requires
add_rows-requires c =
    let kept = c.add_terms-known.auto in
    let limits = (bounds_of c.args.set).limits in
    let fit = products-fit (bounds_of c.args.set) in record { l_in_bounds = (c.requires.l_in_bounds, (omega (arith, limits.l-least), (omega (arith, limits.l-most), (table-sizes (bounds_of c.args.set)).oll))); stride_in_bounds = (omega (arith, fit, kept.lefts, length-zeros products_room), omega (arith, fit, kept.rights, length-zeros products_room)) }

pub add_target-requires : goal.add_target-requires
add_target-requires c =
    record { i_lt_o = c.requires.i_lt_o; l_in_bounds = (omega (arith, c.requires.l_in_bounds, c.add_rows.auto.g), c.requires.abq_lent.1.0) }

pub returns : goal.returns
returns c =
    let a = c.args in
    let gathered = c.add_terms-known.ensures in
    rows_then
    (equation-rows (bounds_of c.args.set) a.abq.now a.left.now a.right.now a.sp.now a.i
    (zero-rows (zero-at products_room) gathered.by_left) (zero-rows (zero-at products_room) gathered.by_right) c.add_rows.ensures)
    (target-rows (bounds_of c.args.set) a.abq.now a.sums.now a.target.now a.i gathered.value c.add_target.ensures)
