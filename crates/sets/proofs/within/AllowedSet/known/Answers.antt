-- `sets::AllowedSet::known` meets its contract: the limits are what the test asks for.
use Rattle.sets.specs.Bounds.{allowed-from}
use Rattle.sets.proofs.within.AllowedSet.known.Goals as goal

pub invariant_of-result : goal.invariant_of-result
invariant_of-result c = record { within = allowed-from c.requires.limits }
