-- `keccak::round` meets its contract: the five steps one after the other.
-- Rests on what each step ensures.
use Rattle.std.proofs.Common.{◌∙◌, ap, ap₂}
use Rattle.keccak.specs.Keccak.{keccak_round, rho, pi, chi, iota}
use Rattle.keccak.proofs.round.Goals as goal

pub returns : goal.returns
unfolding keccak_round
returns c =
    c.iota.ensures ∙ ap₂ iota c.round_constant.ensures (c.chi-c.ensures ∙ ap chi (c.rho_pi-p.ensures ∙ ap (λ a. pi (rho a)) c.theta-t.ensures))
