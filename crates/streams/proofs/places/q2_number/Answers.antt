-- `streams::q2_number` meets its contract. Rests on the bounds of an allowed set.
use Rattle.streams.specs.TermPlaces.{few-groups, q2-within}
use native.Mathlib.Omega.{arith}
use Rattle.streams.proofs.places.q2_number.Goals as goal

pub known-requires : goal.known-requires
known-requires c = c.requires.bounds

pub q1_number-requires : goal.q1_number-requires
q1_number-requires c = c.requires

pub overflow_add-result : goal.overflow_add-result
overflow_add-result c = let p = c.requires in omega (arith, rw c.known.ensures at c.all_terms.ensures, c.q1_number.ensures, q2-within p, few-groups p.bounds)

pub returns : goal.returns
returns c = omega (arith, rw c.known.ensures at c.all_terms.ensures, c.q1_number.ensures)
