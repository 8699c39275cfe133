-- `signing::add_oil` meets its contract. The invariant: the first y rows have gained T12 times the oil, and the next has its place.
use Rattle.std.proofs.Common.{◌<◌}
use Rattle.tables.specs.Table.{Filling}
use Rattle.signing.specs.Writing.{oil_row}
use Rattle.signing.specs.Emitting.{OilTurn}
use Rattle.sets.specs.Numbers.{numbers}
use Rattle.signing.proofs.writing.add_oil.Given as goal

abbrev pub invariant-loop-y : goal.invariant-loop-y
invariant-loop-y l = record {
  turn : l.y < l.count → OilTurn (numbers l.fn.set) l.y;
  rows : Filling l.initial.u l.l l.count (oil_row l.l l.w l.t l.oil) l.y l.u;
}
