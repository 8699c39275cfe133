-- `words::factor` meets its contract: the code mirrors the definition.
use Rattle.words.specs.Multiples.{factor-low, factor-high}
use Rattle.words.proofs.factor.Goals as goal

pub returns-then-q-lt4 : goal.returns-then-q-lt4
returns-then-q-lt4 c = factor-low _ c.if-q-lt4.true

pub returns-else-q-lt4 : goal.returns-else-q-lt4
returns-else-q-lt4 c = factor-high _ c.if-q-lt4.false
