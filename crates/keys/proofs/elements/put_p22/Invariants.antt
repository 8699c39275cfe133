-- `keys::elements::put_p22` meets its contract. The invariant: the first q rows of l elements are written. Rests on Elements and Places.
use Rattle.std.proofs.Common.{◌-◌}
use Rattle.keys.specs.Elements.{Putting}
use Rattle.keys.proofs.elements.put_p22.Given as goal

abbrev pub invariant-loop-q : goal.invariant-loop-q
invariant-loop-q l = Putting l.o l.l l.initial.key l.i l.k l.q l.key
