-- `partial_sums::right::fill_by_multiples` meets its contract. The invariant: the rows of the first i matrix indices are there, in both tables, and those of the next have their places.
-- Rests on Filled.
use Rattle.std.proofs.Common.{◌≡◌, ◌+◌, ◌*◌, ◌<◌, ◌≤◌, length}
use Rattle.sets.specs.Rooms.{vinegar_powers_room}
use Rattle.partial_sums.specs.Products.{Stacking}
use Rattle.partial_sums.specs.LeftRight.{right_row, sums_row}
use Rattle.partial_sums.specs.SumPlaces.{TableSizes}
use Rattle.sets.specs.Numbers.{numbers}
use Rattle.partial_sums.proofs.right.fill_by_multiples.Given as goal

abbrev pub invariant-loop-i : goal.invariant-loop-i
invariant-loop-i l = record {
  sizes : TableSizes (numbers l.set);
  room : length l.y ≡ vinegar_powers_room;
  right-place : l.i < l.set.o → l.i * (l.set.o * l.set.l * (l.set.l * l.set.l)) + l.set.o * l.set.l * (l.set.l * l.set.l) ≤ l.set.o * (l.set.o * l.set.l) * (l.set.l * l.set.l);
  sums-place : l.i < l.set.o → l.i * (l.set.l * l.set.l * (l.set.l * l.set.l)) + l.set.l * l.set.l * (l.set.l * l.set.l) ≤ l.set.o * (l.set.l * l.set.l) * (l.set.l * l.set.l);
  right : Stacking l.initial.right (l.set.o * l.set.l) (l.set.l * l.set.l) l.set.o (right_row (numbers l.set) l.public l.x l.t) l.i l.right;
  sums : Stacking l.initial.sums (l.set.l * l.set.l) (l.set.l * l.set.l) l.set.o (sums_row (numbers l.set) l.public l.x) l.i l.sums;
}
