-- `<[u64; 25]>::from` meets its contract: the code's lanes are the definition's, written out.
use Rattle.std.proofs.Common.{refl}
use Rattle.keccak.specs.Lanes.{listed}
use Rattle.keccak.proofs.ArrayU6425FromLanes.from.Goals as goal

pub returns : goal.returns
unfolding listed
returns c = refl
