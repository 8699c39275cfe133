-- `terms::equation_block` meets its contract. The invariant: the block holds the sum of the first alpha terms.
use Rattle.std.proofs.Common.{◌≡◌, ◌≤◌}
use Rattle.matrix.specs.Block.{block}
use Rattle.scheme.specs.Maps.{sum_m}
use Rattle.terms.specs.Terms.{term_from}
use Rattle.sets.specs.Numbers.{numbers}
use Rattle.terms.proofs.equation.equation_block.Given as goal

abbrev pub invariant-loop-alpha : goal.invariant-loop-alpha
invariant-loop-alpha l = (l.alpha ≤ l.count) × (l.sum ≡ block l.l (sum_m l.alpha (term_from (numbers l.set) l.abq l.sums l.i)))
