-- `signing::read_solution` meets its contract. The invariant: the first e bytes are read (`fill-next`), and the next stands within the area.
use Rattle.std.proofs.Common.{◌+◌, ◌*◌, ◌<◌, ◌≤◌}
use Rattle.ground.specs.Segment.{Segment}
use Rattle.linear.specs.System.{at}
use Rattle.signing.proofs.writing.read_solution.Given as goal

abbrev pub invariant-loop-e : goal.invariant-loop-e
invariant-loop-e l = record {
  upto : l.e ≤ l.n;
  cell : l.e < l.n → l.e * (l.n + 1) + l.n < l.n * (l.n + 1);
  read : Segment l.initial.oil 0 l.e (λ k. at l.g l.n k l.n) l.oil;
}
