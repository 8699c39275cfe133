-- `sets::count::all_terms` meets its contract: o times what `terms` answers.
use Rattle.std.proofs.Common.{ap, ◌*◌}
use Rattle.sets.specs.Sets.{all_terms}
use native.Mathlib.Omega.{arith}
use Rattle.sets.proofs.Bounds.{bounds_of}
use Rattle.sets.proofs.count.all_terms.Goals as goal

pub overflow_mul-result : goal.overflow_mul-result
unfolding all_terms
overflow_mul-result c = omega (arith, ap (λ x. c.args.s.o * x) c.terms.ensures, (bounds_of c.args.s).sizes.all-terms)

pub returns : goal.returns
unfolding all_terms
returns c = ap (λ x. c.args.s.o * x) c.terms.ensures
