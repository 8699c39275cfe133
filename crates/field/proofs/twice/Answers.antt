-- `field::twice` meets its contract: what is doubled below 16, and x + 1 for x⁴ (`twice-is`).
use Rattle.field.specs.Laws.{twice-is}
use Rattle.field.proofs.twice.Goals as goal

pub returns : goal.returns
returns c = twice-is c.args.a
