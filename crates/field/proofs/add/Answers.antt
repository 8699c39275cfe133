-- `field::add` meets its contract: the code's exclusive or is the definition's.
use Rattle.std.proofs.Common.{refl}
use Rattle.field.specs.Field.{add as sum}
use Rattle.field.proofs.add.Goals as goal

pub returns : goal.returns
unfolding sum
returns c = refl
