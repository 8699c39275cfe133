-- `rows::add_elements` meets its contract. The loop's invariant: dst is the row at entry with the first c elements gained (`plus-next`).
use Rattle.std.proofs.Common.{◌+◌, ◌≤◌}
use Rattle.packing.specs.Packing.{element}
use Rattle.rows.specs.Plus.{Plus}
use Rattle.rows.proofs.add_elements.Given as goal

abbrev pub invariant-loop-c : goal.invariant-loop-c
invariant-loop-c l = (l.c ≤ l.n) × Plus l.initial.dst l.at l.c (λ k. element l.stream (l.from + k)) l.dst
