-- `seeds::expansion::expand` meets its contract. Invariant `Run`: `at` bytes of the run are written, and the next is byte `skip` of block `number`.
-- Rests on the laws of Expansion.
use Rattle.std.proofs.Common.{◌-◌, length}
use Rattle.seeds.specs.Expansion.{Run}
use Rattle.seeds.proofs.expansion.expand.Given as goal

abbrev pub invariant-loop-at : goal.invariant-loop-at
invariant-loop-at l = Run l.seed l.start l.initial.out l.number l.skip l.at l.out

abbrev pub decreases-loop-at : goal.decreases-loop-at
decreases-loop-at l = length l.initial.out - l.at
