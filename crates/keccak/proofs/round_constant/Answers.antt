-- `keccak::round_constant` meets its contract: the table is what the shift register gives, computed once for all 24 rounds.
use Rattle.ground.specs.Fill.{tab, get_or-tab}
use Rattle.keccak.specs.Keccak.{shifted, register, rc, constant_bits, round_constant}
use Rattle.keccak.proofs.round_constant.Goals as goal

pub returns : goal.returns
unfolding tab shifted register rc constant_bits round_constant
returns c = get_or-tab 24 round_constant c.args.i c.requires
