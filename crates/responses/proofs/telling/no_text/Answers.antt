-- Eighty zeros are the text of no bytes.
use Rattle.std.proofs.Common.{refl}
use Rattle.responses.specs.Placed.{placed}
use Rattle.responses.proofs.telling.no_text.Goals as goal

pub returns : goal.returns
unfolding placed
returns c = refl
