-- `public_map::values::put_values` meets its contract. The invariant: the first i equations are there. Rests on Values.
use Rattle.std.proofs.Common.{◌≤◌}
use Rattle.terms.specs.Terms.{equation_from}
use Rattle.public_map.specs.Values.{Puts}
use Rattle.sets.specs.Numbers.{numbers}
use Rattle.public_map.proofs.values.put_values.Given as goal

abbrev pub invariant-loop-i : goal.invariant-loop-i
invariant-loop-i l = (l.i ≤ l.set.o) × Puts l.set.l l.i (equation_from (numbers l.set) l.abq l.sums) l.initial.values l.values
