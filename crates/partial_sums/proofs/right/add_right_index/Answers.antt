-- `partial_sums::right::add_right_index` meets its contract: the sums with P21 are added, then T12 transposed times those with P11. Rests on Products and Places.
use Rattle.std.proofs.Common.{◌*◌, length}
use Rattle.rows.specs.PlusRows.{rows_then}
use Rattle.sets.specs.Rooms.{kept-room}
use Rattle.tables.specs.Sums.{transposed-loaded}
use Rattle.partial_sums.specs.Products.{products_at}
use Rattle.streams.specs.Numbers.{PublicPlaces, public-places, number-within}
use Rattle.partial_sums.specs.SumPlaces.{TableSizes, table-sizes}
use native.Mathlib.Omega.{arith}
use Rattle.sets.specs.Numbers.{numbers}
use Rattle.sets.proofs.Bounds.{bounds_of}
use Rattle.partial_sums.proofs.right.add_right_index.Goals as goal

pub add_products-requires : goal.add_products-requires
add_products-requires c =
    let places : PublicPlaces (numbers c.args.set) c.args.i (length c.args.public.now) = public-places (bounds_of c.args.set) c.requires.i_lt_o.0 c.requires.public_len.0 in
    let sizes : TableSizes (numbers c.args.set) = table-sizes (bounds_of c.args.set) in
    let set = numbers c.args.set in
    let bounds = bounds_of c.args.set in
    let p21 = number-within (set.o * set.v) (set.l * set.l) c.p21_number-p21.ensures.is places.p21 in
    record { n_in_bounds = (c.requires.i_lt_o.1, (p21, c.requires.public_len.1.0)); l_bound = (bounds.products.vll, (sizes.positive-v, (sizes.positive-l, bounds.limits.l-most))) }

pub add_transposed-requires : goal.add_transposed-requires
add_transposed-requires c =
    let sizes : TableSizes (numbers c.args.set) = table-sizes (bounds_of c.args.set) in (
      kept-room c.requires.i_lt_o.1 c.add_products.auto.dst,
      (omega (arith, c.requires.public_len.1.1), (c.requires.l_in_bounds, sizes.rows)),
    )

pub returns : goal.returns
returns c =
    let a = c.args in
    let set = numbers a.set in
    λ x m y-holds.
    rows_then
    (products_at set.l a.public.now set.v x (set.l * set.l) c.p21_number-p21.ensures.is
    (c.add_products.ensures x m))
    (transposed-loaded a.t.now 0 (set.v * set.l) c.add_transposed.ensures y-holds)
