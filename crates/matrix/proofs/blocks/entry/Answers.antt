-- `matrix::entry` meets its contract: row r stands from byte 5·r on; the place is below 25.
use Rattle.std.proofs.Common.{refl}
use Rattle.matrix.specs.Block.{view}
use Rattle.matrix.proofs.blocks.entry.Goals as goal

pub returns : goal.returns
unfolding view
returns c = refl
