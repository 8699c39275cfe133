-- `matrix::no_block` meets its contract: the 25 zeros are those of the definition.
use Rattle.std.proofs.Common.{refl}
use Rattle.ground.specs.Fill.{tab}
use Rattle.matrix.specs.Promises.{no_block}
use Rattle.matrix.proofs.blocks.no_block.Goals as goal

pub returns : goal.returns
unfolding no_block tab
returns c = refl
