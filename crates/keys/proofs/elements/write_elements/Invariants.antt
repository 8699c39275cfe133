-- `keys::elements::write_elements` meets its contract. The invariant: the elements of the first i equations are written. Rests on Elements and Parts.
use Rattle.std.proofs.Common.{◌≡◌, length}
use Rattle.keys.specs.Elements.{Writing}
use Rattle.sets.specs.Numbers.{numbers}
use Rattle.keys.proofs.elements.write_elements.Given as goal

abbrev pub invariant-loop-i : goal.invariant-loop-i
invariant-loop-i l = Writing (numbers l.set) l.public l.t l.initial.key l.i l.key × (length l.f ≡ length l.initial.f) × (length l.k ≡ length l.initial.k)
