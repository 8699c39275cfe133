-- `system::equation::add_target` meets its contract. The invariant: the last bytes of the first e rows have gained, and the next row and element have their places. Rests on Equation.
use Rattle.std.proofs.Common.{◌+◌, ◌*◌, ◌<◌}
use Rattle.tables.specs.Sums.{Adding}
use Rattle.partial_sums.specs.SumPlaces.{TableSizes}
use Rattle.system.specs.Sides.{RowTurn}
use Rattle.system.specs.Equation.{target_added}
use Rattle.sets.specs.Numbers.{numbers}
use Rattle.system.proofs.equation.add_target.Given as goal

abbrev pub invariant-loop-e : goal.invariant-loop-e
invariant-loop-e l = record {
  sizes : TableSizes (numbers l.fn.set);
  turn : l.e < l.total → RowTurn l.l (l.n + 1) l.e;
  number : l.e < l.total → l.i * l.total + l.e < l.fn.set.o * l.total;
  rows : Adding l.initial.g l.at l.total (l.n + 1) (target_added l.l l.n l.total l.known l.target l.i) l.e l.g;
}
