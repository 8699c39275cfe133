-- `linear::entry` meets its contract: entry c of row r stands at r * (n + 1) + c. Rests on `Within`, which says where row r ends.
use Rattle.linear.specs.System.{at}
use Rattle.std.proofs.Common.{rules}
use Rattle.linear.proofs.entry.Goals as goal

pub returns : goal.returns
unfolding at
returns c = search rules
