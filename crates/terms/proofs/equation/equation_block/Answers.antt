-- `terms::equation_block` meets its contract. The invariant: the block holds the sum of the first alpha terms.
use Rattle.std.proofs.Common.{◌∙◌, ◌<◌, ◌≤◌}
use Rattle.matrix.specs.Block.{block_same, stride}
use Rattle.streams.specs.TermPlaces.{TermPlace, index-lt}
use Rattle.terms.specs.Terms.{term_from}
use Rattle.terms.specs.SumsPlaces.{sums-within}
use Rattle.terms.specs.Adding.{term-with, sum-start, sum_step}
use native.Mathlib.Omega.{arith}
use Rattle.sets.specs.Numbers.{numbers}
use Rattle.sets.proofs.Bounds.{bounds_of}
use Rattle.terms.proofs.equation.equation_block.Goals as goal

pub read_term-term-requires-clause-term_place : goal.read_term-term-requires-clause-term_place
read_term-term-requires-clause-term_place c =
    record { bounds = bounds_of c.args.set; equation = c.requires.i_lt_o; below = omega (arith, c.loop-alpha-test.true, c.terms-count.ensures) }

pub loop-alpha-init : goal.loop-alpha-init
loop-alpha-init c = (omega arith, sum-start _ _)

pub term_block-value-requires : goal.term_block-value-requires
term_block-value-requires c =
    let place : (TermPlace (numbers c.args.set) c.args.i c.loop-alpha.alpha) =
    record { bounds = (bounds_of c.args.set); equation = c.requires.i_lt_o; below = omega (arith, c.loop-alpha-test.true, c.terms-count.ensures) } in
    let t = place in
    let index : c.read_term-term.result.index < c.args.set.o = rw c.read_term-term.ensures.index (index-lt t) in
    (t.bounds.limits.l-most, sums-within c.args.set.l index c.requires.l_in_bounds)

pub loop-alpha-preserved : goal.loop-alpha-preserved
loop-alpha-preserved c =
    let a = c.args in
    let small : a.set.l ≤ stride = omega (arith, (bounds_of c.args.set).limits.l-most) in (
      omega (arith, c.loop-alpha-test.true),
      sum_step small (term_from (numbers a.set) a.abq.now a.sums.now a.i) c.loop-alpha.alpha c.loop-alpha.invariant.1
          (c.term_block-value.ensures ∙ block_same (term-with a.sums.now small c.read_term-term.ensures)) c.plus-more.ensures,
    )
