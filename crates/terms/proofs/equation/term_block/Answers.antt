-- `terms::term_block` meets its contract: the two products are the term's (`term_of`).
use Rattle.std.proofs.Common.{◌≤◌}
use Rattle.matrix.specs.Block.{stride}
use Rattle.terms.specs.Terms.{term_with}
use Rattle.terms.specs.Adding.{term_of}
use native.Mathlib.Omega.{arith}
use Rattle.terms.proofs.equation.term_block.Goals as goal

pub returns : goal.returns
unfolding term_with
returns c =
    let t = c.args.term in
    let small : c.args.l ≤ stride = omega (arith, c.requires.0) in
    term_of small t.a t.b _ c.gathered_block-middle.ensures c.product-right.ensures c.product.ensures
