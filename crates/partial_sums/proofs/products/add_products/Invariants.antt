-- `partial_sums::products::add_products` meets its contract. The invariant: y block rows are added, for every table whose multiples these are, and the next one has its place.
-- Rests on Products.
use Rattle.std.proofs.Common.{◌<◌}
use Rattle.partial_sums.specs.Products.{Multiplying, ProductTurn}
use Rattle.partial_sums.proofs.products.add_products.Given as goal

abbrev pub invariant-loop-y : goal.invariant-loop-y
invariant-loop-y l = record {
  so_far : Multiplying l.initial.dst l.at l.n l.stream l.number l.l l.a l.count l.multiples l.y l.dst;
  turn : l.y < l.a → ProductTurn l.l l.n l.number l.a l.count l.y;
}
