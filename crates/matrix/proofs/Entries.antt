-- What the check cites where a function fills a block entry by entry.
-- Rests on Determinant and Steps.
use Rattle.matrix.specs.Determinant.{skip-lt}
use Rattle.matrix.specs.Steps.{S-inside}

pub ruleset skip_below = (skip-lt)

pub ruleset s_inside = (S-inside)
