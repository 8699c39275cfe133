-- `keccak::rounds` meets its contract. Invariant: the state after i rounds.
use Rattle.std.proofs.Common.{◌≡◌, ◌∙◌, ap}
use Rattle.keccak.specs.Keccak.{keccak_round, keccak_f, rounds-none, rounds-next}
use native.Mathlib.Omega.{arith}
use Rattle.keccak.proofs.rounds.Goals as goal

pub loop-i-init : goal.loop-i-init
loop-i-init c = (omega arith, rounds-none _)

pub loop-i-preserved : goal.loop-i-preserved
loop-i-preserved c = (omega arith, c.round-t.ensures ∙ ap (keccak_round _) c.loop-i.invariant.1 ∙ rounds-next _ _)

pub returns : goal.returns
unfolding keccak_f
returns c = let all : c.loop-i.i ≡ 24 = omega arith in rw all at c.loop-i.invariant.1
