-- `packing::spread` meets its contract. The loop's invariant: k bytes are spread, each into its low and its high half.
use Rattle.std.proofs.Common.{◌≤◌}
use Rattle.packing.specs.Spread.{Spread}
use Rattle.packing.proofs.spread.Given as goal

abbrev pub invariant-loop-k : goal.invariant-loop-k
invariant-loop-k l = (l.k ≤ l.n) × Spread l.stream l.from l.k l.initial.dst l.dst
