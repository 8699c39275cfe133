-- `streams::a_number` meets its contract. Rests on the bounds of an allowed set.
use Rattle.std.proofs.Common.{ap, ◌+◌, ◌*◌}
use Rattle.scheme.specs.Streams.{term_number}
use Rattle.streams.specs.TermPlaces.{a_lt}
use native.Mathlib.Omega.{arith}
use Rattle.streams.proofs.places.a_number.Goals as goal

pub known-requires : goal.known-requires
known-requires c = c.requires.bounds

pub overflow_mul-result : goal.overflow_mul-result
unfolding term_number
overflow_mul-result c = omega (arith, ap (λ x. c.args.i * x) (rw c.known.ensures at c.terms.ensures), a_lt c.requires, c.requires.bounds.sizes.all-terms)

pub overflow_add-result : goal.overflow_add-result
unfolding term_number
overflow_add-result c = omega (arith, ap (λ x. c.args.i * x) (rw c.known.ensures at c.terms.ensures), a_lt c.requires, c.requires.bounds.sizes.all-terms)

pub returns : goal.returns
unfolding term_number
returns c = ap (λ x. c.args.i * x + c.args.alpha) (rw c.known.ensures at c.terms.ensures)
