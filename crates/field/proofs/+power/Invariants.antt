-- The measure is the exponent.
use Rattle.field.proofs.+power.Given as goal

abbrev pub decreases-power : goal.decreases-power
decreases-power l = l.k
