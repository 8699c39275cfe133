-- `sets::count::abq_count` meets its contract: what `all_terms` answers is put into the product, and the bounds do the rest.
use Rattle.std.proofs.Common.{sym, ◌∙◌, ap, ◌+◌, ◌*◌}
use native.Mathlib.Omega.{arith}
use Rattle.sets.specs.Sets.{all_terms}
use Rattle.sets.proofs.count.abq_count.Goals as goal

pub known-requires : goal.known-requires
known-requires c = c.requires

pub overflow_mul-result : goal.overflow_mul-result
overflow_mul-result c = omega (arith, c.requires.products.ll)

pub overflow_mul-result-2 : goal.overflow_mul-result-2
overflow_mul-result-2 c = omega (arith, c.requires.products.ll)

pub overflow_mul-result-3 : goal.overflow_mul-result-3
overflow_mul-result-3 c = omega (arith, c.requires.limits.l-most)

pub overflow_add-result : goal.overflow_add-result
overflow_add-result c = let b = c.requires in omega (arith, b.products.ll, b.limits.l-most)

pub overflow_mul-result-4 : goal.overflow_mul-result-4
overflow_mul-result-4 c =
    let s = c.args.s in
    let b = c.requires in
    let terms = c.all_terms.ensures ∙ ap all_terms c.known.ensures in
    omega (arith, ap (λ t. t * (2 * (s.l * s.l) + 2 * s.l)) terms, b.counts.abq, b.sizes.abq)

pub returns : goal.returns
returns c =
    let s = c.args.s in
    let terms = c.all_terms.ensures ∙ ap all_terms c.known.ensures in
    ap (λ t. t * (2 * (s.l * s.l) + 2 * s.l)) terms ∙ sym c.requires.counts.abq
