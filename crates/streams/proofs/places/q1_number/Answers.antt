-- `streams::q1_number` meets its contract. Rests on the bounds of an allowed set.
use Rattle.std.proofs.Common.{ap, ap₂, ◌+◌, ◌*◌}
use Rattle.streams.specs.TermPlaces.{few-groups, q1-within}
use native.Mathlib.Omega.{arith}
use Rattle.streams.proofs.places.q1_number.Goals as goal

pub known-requires : goal.known-requires
known-requires c = c.requires.bounds

pub overflow_mul-result : goal.overflow_mul-result
overflow_mul-result c = omega (arith, rw c.known.ensures at c.all_terms.ensures, c.requires.bounds.sizes.all-terms)

pub overflow_mul-result-2 : goal.overflow_mul-result-2
overflow_mul-result-2 c = omega (arith, ap (λ x. 2 * x * c.args.set.l) (rw c.known.ensures at c.all_terms.ensures), few-groups c.requires.bounds)

pub a_number-requires : goal.a_number-requires
a_number-requires c = c.requires

pub overflow_add-result : goal.overflow_add-result
overflow_add-result c =
    omega (arith, ap (λ x. 2 * x * c.args.set.l) (rw c.known.ensures at c.all_terms.ensures), c.a_number.ensures, q1-within c.requires, few-groups c.requires.bounds)

pub returns : goal.returns
returns c =
    ap₂ ◌+◌ (ap (λ x. 2 * x * c.args.set.l) (rw c.known.ensures at c.all_terms.ensures)) c.a_number.ensures
