-- `streams::read_term` meets its contract: the parts stand at their numbers, and no block is refused (`a-is`, `b-is`).
use Rattle.std.proofs.Common.{subst, ◌*◌, ◌<◌}
use Rattle.ground.specs.Segment.{Segment}
use Rattle.ground.specs.AnswerLaws.{same-value}
use Rattle.rows.specs.Zero.{zeros}
use Rattle.matrix.specs.Block.{stride}
use Rattle.matrix.specs.RingElements.{coefficient}
use Rattle.sets.specs.Sets.{all_terms}
use Rattle.scheme.specs.Streams.{group_of}
use Rattle.streams.specs.TermPlaces.{size-allowed, a-within, b-within, q1-within, q2-within, block_within, group-within}
use Rattle.streams.specs.TermOf.{a-is, b-is}
use native.Mathlib.Omega.{arith}
use Rattle.sets.specs.Numbers.{numbers}
use Rattle.streams.proofs.reading.read_term.Goals as goal

pub a_number-requires : goal.a_number-requires
a_number-requires c = rw c.numbers-set.ensures.itself c.requires.term_place

pub invertible_at-requires : goal.invertible_at-requires
invertible_at-requires c =
    let t = c.requires.term_place in
    let within : c.a_number.result < 2 * all_terms (numbers c.args.set) = omega (arith, rw c.numbers-set.ensures.itself at c.a_number.ensures, a-within t) in
    (size-allowed t.bounds.limits, block_within t.bounds c.args.abq.now c.requires.abq_lent.long within)

pub unwrap-a-requires : goal.unwrap-a-requires
unwrap-a-requires c = rw (a-is c.requires.term_place c.args.abq.now c.requires.abq_lent (rw c.numbers-set.ensures.itself at c.a_number.ensures) c.invertible_at.ensures)

pub b_number-requires : goal.b_number-requires
b_number-requires c = rw c.numbers-set.ensures.itself c.requires.term_place

pub invertible_at-requires-2 : goal.invertible_at-requires-2
invertible_at-requires-2 c =
    let t = c.requires.term_place in
    let within : c.b_number.result < 2 * all_terms (numbers c.args.set) = omega (arith, rw c.numbers-set.ensures.itself at c.b_number.ensures, b-within t) in
    (size-allowed t.bounds.limits, block_within t.bounds c.args.abq.now c.requires.abq_lent.long within)

pub unwrap-b-requires : goal.unwrap-b-requires
unwrap-b-requires c = rw (b-is c.requires.term_place c.args.abq.now c.requires.abq_lent (rw c.numbers-set.ensures.itself at c.b_number.ensures) c.invertible_at-2.ensures)

pub q1_number-requires : goal.q1_number-requires
q1_number-requires c = rw c.numbers-set.ensures.itself c.requires.term_place

pub coefficients_of-q1-requires : goal.coefficients_of-q1-requires
coefficients_of-q1-requires c =
    let t = c.requires.term_place in
    (t.bounds.limits.l-most, group-within t.bounds c.args.abq.now c.requires.abq_lent.long (rw (rw c.numbers-set.ensures.itself at c.q1_number.ensures) (q1-within t)))

pub q2_number-requires : goal.q2_number-requires
q2_number-requires c = rw c.numbers-set.ensures.itself c.requires.term_place

pub coefficients_of-q2-requires : goal.coefficients_of-q2-requires
coefficients_of-q2-requires c =
    let t = c.requires.term_place in
    (t.bounds.limits.l-most, group-within t.bounds c.args.abq.now c.requires.abq_lent.long (rw (rw c.numbers-set.ensures.itself at c.q2_number.ensures) (q2-within t)))

pub matrix_index-index-requires : goal.matrix_index-index-requires
matrix_index-index-requires c = rw c.numbers-set.ensures.itself c.requires.term_place

pub returns : goal.returns
returns c =
    let l = c.args.set.l in
    let abq = c.args.abq.now in
    record {
      a = same-value c.unwrap-a.ensures (a-is c.requires.term_place abq c.requires.abq_lent (rw c.numbers-set.ensures.itself at c.a_number.ensures) c.invertible_at.ensures);
      b = same-value c.unwrap-b.ensures (b-is c.requires.term_place abq c.requires.abq_lent (rw c.numbers-set.ensures.itself at c.b_number.ensures) c.invertible_at-2.ensures);
      q1 = subst (λ g. Segment (zeros stride) 0 l (coefficient l (group_of l abq g)) c.coefficients_of-q1.result) (rw c.numbers-set.ensures.itself at c.q1_number.ensures)
          c.coefficients_of-q1.ensures;
      q2 = subst (λ g. Segment (zeros stride) 0 l (coefficient l (group_of l abq g)) c.coefficients_of-q2.result) (rw c.numbers-set.ensures.itself at c.q2_number.ensures)
          c.coefficients_of-q2.ensures;
      index = rw c.numbers-set.ensures.itself at c.matrix_index-index.ensures;
    }
