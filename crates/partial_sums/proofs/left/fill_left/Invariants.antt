-- `partial_sums::left::fill_left` meets its contract. The invariant: the rows of the first i matrix indices are there, and those of the next have their place. Rests on Filled.
use Rattle.std.proofs.Common.{◌+◌, ◌*◌, ◌<◌, ◌≤◌}
use Rattle.partial_sums.specs.Products.{Stacking}
use Rattle.partial_sums.specs.LeftRight.{left_row}
use Rattle.partial_sums.specs.SumPlaces.{TableSizes}
use Rattle.sets.specs.Numbers.{numbers}
use Rattle.partial_sums.proofs.left.fill_left.Given as goal

abbrev pub invariant-loop-i : goal.invariant-loop-i
invariant-loop-i l = record {
  sizes : TableSizes (numbers l.set);
  stack : l.i < l.set.o → l.i * (l.set.l * l.set.l * (l.set.o * l.set.l)) + l.set.l * l.set.l * (l.set.o * l.set.l) ≤ l.set.o * (l.set.l * l.set.l) * (l.set.o * l.set.l);
  rows : Stacking l.initial.left (l.set.l * l.set.l) (l.set.o * l.set.l) l.set.o (left_row (numbers l.set) l.public l.x l.t) l.i l.left;
}
