-- `partial_sums::right::load_products` meets its contract: zeros that gain the sums with P11. Rests on Products and Places.
use Rattle.std.proofs.Common.{◌*◌, length}
use Rattle.tables.specs.Sums.{zero-rows-from}
use Rattle.partial_sums.specs.Products.{products_at}
use Rattle.streams.specs.Numbers.{PublicPlaces, public-places, number-within}
use Rattle.partial_sums.specs.SumPlaces.{TableSizes, table-sizes}
use native.Mathlib.Omega.{arith}
use Rattle.sets.specs.Numbers.{numbers}
use Rattle.sets.proofs.Bounds.{bounds_of}
use Rattle.partial_sums.proofs.right.load_products.Goals as goal

pub p11_number-p11-requires : goal.p11_number-p11-requires
p11_number-p11-requires c = (c.requires.i_lt_o.0, (table-sizes (bounds_of c.args.set)).positive-v)

pub overflow_mul-l : goal.overflow_mul-l
overflow_mul-l c = omega (arith, (table-sizes (bounds_of c.args.set)).ll)

pub add_products-requires : goal.add_products-requires
add_products-requires c =
    let places : PublicPlaces (numbers c.args.set) c.args.i (length c.args.public.now) = public-places (bounds_of c.args.set) c.requires.i_lt_o.0 c.requires.public_len.0 in
    let sizes : TableSizes (numbers c.args.set) = table-sizes (bounds_of c.args.set) in
    let set = numbers c.args.set in
    let bounds = bounds_of c.args.set in
    let p11 = number-within (set.v * set.v) (set.l * set.l) c.p11_number-p11.ensures.is places.p11 in record { n_in_bounds = (omega (arith, c.requires.i_lt_o.1, c.clear.auto.s), (p11, c.requires.public_len.1)); l_bound = (bounds.products.vll, (sizes.positive-v, (sizes.positive-l, bounds.limits.l-most))) }

pub returns : goal.returns
returns c = let a = c.args in
    let set = numbers a.set in
    λ x m.
    zero-rows-from a.y.now c.clear.ensures
    (products_at set.l a.public.now set.v x (set.l * set.l) c.p11_number-p11.ensures.is (c.add_products.ensures x m))
