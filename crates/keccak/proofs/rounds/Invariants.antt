-- `keccak::rounds` meets its contract. Invariant: the state after i rounds.
use Rattle.std.proofs.Common.{◌≡◌, ◌≤◌}
use Rattle.keccak.specs.Keccak.{rounds}
use Rattle.keccak.specs.Lanes.{listed}
use Rattle.keccak.proofs.rounds.Given as goal

abbrev pub invariant-loop-i : goal.invariant-loop-i
invariant-loop-i l = (l.i ≤ 24) × (listed l.t ≡ rounds l.i (listed l.initial.t))
