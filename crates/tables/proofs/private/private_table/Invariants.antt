-- `tables::private_table` meets its contract. The invariant: the first y rows are filled. Rests on RingRows, Table and Turns.
use Rattle.std.proofs.Common.{◌*◌, ◌/◌, ◌%◌}
use Rattle.tables.specs.Table.{Filling}
use Rattle.tables.specs.RingRows.{rings_row}
use Rattle.tables.proofs.private.private_table.Given as goal

abbrev pub invariant-loop-y : goal.invariant-loop-y
invariant-loop-y l = Filling l.initial.t l.w l.count (λ z. rings_row l.l l.private (z / l.l * l.o) l.sp (z % l.l)) l.y l.t
