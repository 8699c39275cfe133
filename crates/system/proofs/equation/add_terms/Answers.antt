-- `system::equation::add_terms` meets its contract. The invariant: the products have gained those of the first alpha terms, and the block holds the sum of their values.
-- Rests on Equation, and on terms' sum over alpha.
use Rattle.std.proofs.Common.{◌≡◌, refl, ap, ◌∙◌, ℕ, ◌<◌, ◌≤◌, length}
use Rattle.sets.specs.declared.Set.{Set}
use Rattle.sets.specs.Sets.{terms}
use Rattle.sets.specs.Bounds.{Bounds}
use Rattle.matrix.specs.Block.{block, block_same, length-block, stride}
use Rattle.scheme.specs.Streams.{A}
use Rattle.scheme.specs.Maps.{sum_m}
use Rattle.streams.specs.TermPlaces.{TermPlace, index-lt}
use Rattle.terms.specs.Terms.{term_from}
use Rattle.terms.specs.SumsPlaces.{sums-within}
use Rattle.terms.specs.Adding.{term-with, sum-start, sum_step}
use Rattle.tables.specs.Sums.{summing-none, summing-next, summing-end}
use native.Mathlib.Omega.{arith}
use Rattle.sets.specs.Numbers.{numbers}
use Rattle.sets.proofs.Bounds.{bounds_of}
use Rattle.system.proofs.equation.add_terms.Goals as goal

-- a term of an equation, counted by `count`
counted : {set : Set} {i alpha count : ℕ} → Bounds set → i < set.o → count ≡ terms set → alpha < count → TermPlace set i alpha
counted b e n h = record { bounds = b; equation = e; below = omega (arith, n) }

pub loop-alpha-init : goal.loop-alpha-init
loop-alpha-init c =
    record {
      place = counted (bounds_of c.args.set) c.requires.i_lt_o c.terms-count.ensures;
      lefts-long = refl;
      rights-long = refl;
      lefts = summing-none;
      rights = summing-none;
      upto = omega arith;
      known = sum-start _ _;
    }

pub read_term-term-requires : goal.read_term-term-requires
read_term-term-requires c = record { term_place = c.loop-alpha.invariant.place c.loop-alpha-test.true; abq_lent = c.requires.abq_lent.0 }

pub add_term-requires : goal.add_term-requires
add_term-requires c =
    let i = c.loop-alpha.invariant in
    let term = c.read_term-term.ensures in
    let rooms = c.requires.product_rooms in record {
      index_lt_o = (
        rw term.index (index-lt (i.place c.loop-alpha-test.true)),
        ap length term.a ∙ length-block c.args.set.l (A (numbers c.args.set) c.args.abq.now c.args.i c.loop-alpha.alpha),
      );
      product_rooms = record { lefts-fit = omega (arith, rooms.lefts-fit, i.lefts-long); rights-fit = omega (arith, rooms.rights-fit, i.rights-long) };
      table_rooms = c.requires.table_rooms;
    }

pub term_block-value-requires : goal.term_block-value-requires
term_block-value-requires c =
    let index : c.read_term-term.result.index < c.args.set.o = rw c.read_term-term.ensures.index (index-lt (c.loop-alpha.invariant.place c.loop-alpha-test.true)) in
    ((bounds_of c.args.set).limits.l-most, sums-within c.args.set.l index c.requires.abq_lent.1)

pub loop-alpha-preserved : goal.loop-alpha-preserved
loop-alpha-preserved c =
    let a = c.args in
    let i = c.loop-alpha.invariant in
    let below = (i.place c.loop-alpha-test.true).below in
    let term = c.read_term-term.ensures in
    let added = c.add_term in
    let small : a.set.l ≤ stride = omega (arith, (bounds_of c.args.set).limits.l-most) in record {
      place = counted (bounds_of c.args.set) c.requires.i_lt_o c.terms-count.ensures;
      lefts-long = added.auto.lefts ∙ i.lefts-long;
      rights-long = added.auto.rights ∙ i.rights-long;
      lefts = summing-next i.lefts below (added.ensures.by_index a.abq.now a.i c.loop-alpha.alpha term);
      rights = summing-next i.rights below (added.ensures.by_index_2 a.abq.now a.i c.loop-alpha.alpha term);
      upto = omega (arith, c.loop-alpha-test.true);
      known =
          sum_step small (term_from (numbers a.set) a.abq.now a.sums.now a.i) c.loop-alpha.alpha i.known
          (c.term_block-value.ensures ∙ block_same (term-with a.sums.now small term)) c.plus-more.ensures;
    }

pub returns : goal.returns
returns c =
    let a = c.args in
    let i = c.loop-alpha.invariant in
    let all : terms (numbers a.set) ≤ c.loop-alpha.alpha = omega (arith, c.loop-alpha-test.false, c.terms-count.ensures) in
    let whole : c.loop-alpha.alpha ≡ terms (numbers a.set) = omega (arith, i.upto, c.terms-count.ensures) in
    record {
      by_left = summing-end i.lefts all;
      by_right = summing-end i.rights all;
      value = i.known ∙ ap (λ n. block a.set.l (sum_m n (term_from (numbers a.set) a.abq.now a.sums.now a.i))) whole;
    }
