-- `tables::sums::add_left` meets its contract. The invariant: the terms of the first j are added. Rests on Sums.
use Rattle.std.proofs.Common.{◌≡◌, ◌+◌, ◌*◌, length}
use Rattle.sets.specs.Rooms.{vinegar_room}
use Rattle.tables.specs.Gains.{blocks_row}
use Rattle.tables.specs.Sums.{transposed_gain, Summing}
use Rattle.tables.proofs.sums.add_left.Given as goal

abbrev pub invariant-loop-j : goal.invariant-loop-j
invariant-loop-j l =
    (length l.buffer ≡ vinegar_room)
    × Summing l.initial.dst l.at l.m (l.count * l.l) l.v (λ j. transposed_gain l.x (j * (l.l * l.m)) l.m l.l (blocks_row l.l l.stream (l.number + j * l.count))) l.j l.dst
