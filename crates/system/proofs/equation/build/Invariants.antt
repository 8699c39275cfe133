-- `system::equation::build` meets its contract. The invariant: the rows of the first i equations are there, and those of the next have their place. Rests on Equation.
use Rattle.std.proofs.Common.{◌+◌, ◌*◌, ◌<◌, ◌≤◌}
use Rattle.partial_sums.specs.Products.{Stacking}
use Rattle.partial_sums.specs.SumPlaces.{TableSizes}
use Rattle.system.specs.Equation.{system_row}
use Rattle.sets.specs.Numbers.{numbers}
use Rattle.system.proofs.equation.build.Given as goal

abbrev pub invariant-loop-i : goal.invariant-loop-i
invariant-loop-i l = record {
  sizes : TableSizes (numbers l.set);
  place : l.i < l.set.o → l.i * (l.set.l * l.set.l * (l.set.o * l.set.l * l.set.l + 1)) + l.set.l * l.set.l * (l.set.o * l.set.l * l.set.l + 1) ≤ l.set.o * (l.set.l * l.set.l) * (l.set.o * l.set.l * l.set.l + 1);
  rows : Stacking l.initial.g (l.set.l * l.set.l) (l.set.o * l.set.l * l.set.l + 1) l.set.o (system_row (numbers l.set) l.abq l.target l.left l.right l.sums l.sp) l.i l.g;
}
