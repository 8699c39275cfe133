-- `public_map::sums::index_sums` meets its contract. The invariant: the rows have gained the terms of the first j. Rests on MapSums and MapPlaces.
use Rattle.std.proofs.Common.{◌≡◌, ◌≤◌, length}
use Rattle.sets.specs.Rooms.{powers_room}
use Rattle.public_map.specs.MapSums.{IndexSums}
use Rattle.sets.specs.Numbers.{numbers}
use Rattle.public_map.proofs.sums.index_sums.Given as goal

abbrev pub invariant-loop-j : goal.invariant-loop-j
invariant-loop-j l = (l.j ≤ l.n) × (length l.y ≡ powers_room) × IndexSums (numbers l.set) l.public l.key l.w l.i l.initial.sums l.j l.sums
