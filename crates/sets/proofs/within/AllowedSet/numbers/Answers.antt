-- `sets::AllowedSet::numbers` meets its contract: the bounds are what the type's fact gives.
use Rattle.sets.proofs.Bounds.{bounds_of}
use Rattle.sets.proofs.within.AllowedSet.numbers.Goals as goal

pub returns-clause-within : goal.returns-clause-within
returns-clause-within c = bounds_of c.args.self
