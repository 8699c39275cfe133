-- `streams::b_number` meets its contract. Rests on the bounds of an allowed set.
use Rattle.std.proofs.Common.{ap₂, ◌+◌}
use Rattle.streams.specs.TermPlaces.{a_lt}
use native.Mathlib.Omega.{arith}
use Rattle.streams.proofs.places.b_number.Goals as goal

pub known-requires : goal.known-requires
known-requires c = c.requires.bounds

pub a_number-requires : goal.a_number-requires
a_number-requires c = c.requires

pub overflow_add-result : goal.overflow_add-result
overflow_add-result c = let p = c.requires in omega (arith, rw c.known.ensures at c.all_terms.ensures, c.a_number.ensures, a_lt p, p.bounds.sizes.all-terms)

pub returns : goal.returns
returns c = ap₂ ◌+◌ (rw c.known.ensures at c.all_terms.ensures) c.a_number.ensures
