-- `keccak::iota` meets its contract: the code's lanes are the definition's, written out.
use Rattle.std.proofs.Common.{refl}
use Rattle.ground.specs.Fill.{tab}
use Rattle.keccak.specs.Keccak.{xor, and, not, rotl, lane, state, iota}
use Rattle.keccak.specs.Lanes.{listed}
use Rattle.keccak.proofs.iota.Goals as goal

pub returns : goal.returns
unfolding listed tab xor and not rotl lane state iota
returns c = refl
