-- `keys::parts::add_p21` meets its contract. The invariant: the first y rows have gained theirs. Rests on Parts, Places and tables' Table.
use Rattle.std.proofs.Common.{◌*◌}
use Rattle.tables.specs.Table.{Filling}
use Rattle.keys.specs.Parts.{p21_row}
use Rattle.sets.specs.Numbers.{numbers}
use Rattle.keys.proofs.parts.add_p21.Given as goal

abbrev pub invariant-loop-y : goal.invariant-loop-y
invariant-loop-y l = Filling l.initial.f (l.set.v * l.set.l) l.count (p21_row (numbers l.set) l.public l.i) l.y l.f
