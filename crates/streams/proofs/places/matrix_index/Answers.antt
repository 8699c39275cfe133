-- `streams::matrix_index` meets its contract: it is the definition's own text.
use Rattle.std.proofs.Common.{refl}
use Rattle.scheme.specs.Maps.{matrix_index}
use Rattle.streams.proofs.places.matrix_index.Goals as goal

pub returns : goal.returns
unfolding matrix_index
returns c = refl
