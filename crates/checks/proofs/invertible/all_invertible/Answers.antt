-- `checks::all_invertible` meets its contract. The invariant: the first b blocks pass; the first that does not decides.
use Rattle.std.proofs.Common.{ap, ◌*◌, ◌<◌, rules}
use Rattle.sets.specs.Sets.{all_terms}
use Rattle.streams.specs.TermPlaces.{size-allowed, block_within}
use Rattle.checks.specs.Passing.{passing-none, passing-next, passing-end, passing-stops}
use native.Mathlib.Omega.{arith}
use Rattle.checks.proofs.invertible.all_invertible.Goals as goal

pub known-requires : goal.known-requires
known-requires c = c.requires.0

pub overflow_mul-count : goal.overflow_mul-count
overflow_mul-count c = omega (arith, (rw c.known.ensures at c.all_terms-count.ensures), c.requires.0.sizes.all-terms)

pub loop-b-init : goal.loop-b-init
loop-b-init c = passing-none

pub invertible_at-requires : goal.invertible_at-requires
invertible_at-requires c =
    let within : c.loop-b.b < 2 * all_terms c.args.set = omega (arith, c.loop-b-test.true, (rw c.known.ensures at c.all_terms-count.ensures)) in
    (size-allowed c.requires.0.limits, block_within c.requires.0 c.args.abq.now c.requires.1 within)

pub returns-in_err-invertible_at : goal.returns-in_err-invertible_at
returns-in_err-invertible_at c =
    let within : c.loop-b.b < 2 * all_terms c.args.set = omega (arith, c.loop-b-test.true, (rw c.known.ensures at c.all_terms-count.ensures)) in
    rw (← passing-stops c.args.set c.args.abq.now c.loop-b.b within c.invertible_at.ensures.number c.in_err-invertible_at.was) (search rules)

pub loop-b-preserved : goal.loop-b-preserved
loop-b-preserved c =
    passing-next c.loop-b.invariant c.loop-b-test.true c.invertible_at.ensures.number c.in_ok-invertible_at.was

pub returns : goal.returns
returns c =
    passing-end c.args.set c.args.abq.now (ap (λ x. 2 * x) (rw c.known.ensures at c.all_terms-count.ensures)) c.loop-b.invariant c.loop-b-test.false
