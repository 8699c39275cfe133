-- `system::sides::add_outer` meets its contract. The invariant: the first z rows have gained, and the next has its place. Rests on Sides and tables' Sums.
use Rattle.std.proofs.Common.{◌*◌, ◌<◌}
use Rattle.matrix.specs.Block.{stride}
use Rattle.tables.specs.Sums.{Adding}
use Rattle.system.specs.Sides.{outer_row, OuterTurn}
use Rattle.system.proofs.sides.add_outer.Given as goal

abbrev pub invariant-loop-z : goal.invariant-loop-z
invariant-loop-z l = record {
  turn : l.z < l.count * l.l * l.l → OuterTurn l.l l.count l.z;
  rows : Adding l.initial.products 0 (l.count * l.l * l.l) (l.l * stride) (outer_row l.l l.sides l.m) l.z l.products;
}
