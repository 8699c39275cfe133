-- `system::equation::add_terms` meets its contract. The invariant: the products have gained those of the first alpha terms, and the block holds the sum of their values.
-- Rests on Equation, and on terms' sum over alpha.
use Rattle.std.proofs.Common.{◌≡◌, ◌*◌, ◌<◌, ◌≤◌, length}
use Rattle.sets.specs.Sets.{terms}
use Rattle.matrix.specs.Block.{block, stride}
use Rattle.scheme.specs.Maps.{sum_m}
use Rattle.streams.specs.TermPlaces.{TermPlace}
use Rattle.terms.specs.Terms.{term_from}
use Rattle.tables.specs.Sums.{Summing}
use Rattle.system.specs.Equation.{left_term, right_term}
use Rattle.sets.specs.Numbers.{numbers}
use Rattle.system.proofs.equation.add_terms.Given as goal

abbrev pub invariant-loop-alpha : goal.invariant-loop-alpha
invariant-loop-alpha l = record {
  place : l.alpha < l.count → TermPlace (numbers l.set) l.i l.alpha;
  lefts-long : length l.lefts ≡ length l.initial.lefts;
  rights-long : length l.rights ≡ length l.initial.rights;
  lefts : Summing l.initial.lefts 0 (l.set.o * l.set.l * l.set.l) (l.set.l * stride) (terms (numbers l.set)) (λ alpha. left_term (numbers l.set) l.abq l.left l.right l.sp l.i alpha) l.alpha l.lefts;
  rights : Summing l.initial.rights 0 (l.set.o * l.set.l * l.set.l) (l.set.l * stride) (terms (numbers l.set)) (λ alpha. right_term (numbers l.set) l.abq l.left l.right l.sp l.i alpha) l.alpha l.rights;
  upto : l.alpha ≤ l.count;
  known : l.known ≡ block l.l (sum_m l.alpha (term_from (numbers l.set) l.abq l.sums l.i));
}
