-- `matrix::row_allowed` meets its contract: that all places below l pass, in std's words, is the test of the row. Rests on Tests.
use Rattle.std.proofs.Common.{rules, arith, tests, ◌∙◌, refl, ltb}
use Rattle.std.proofs.lemmas.Iterator.{YieldsList-from_range}
use Rattle.std.proofs.lemmas.Iterator.Search.{all_from_yields_List}
use Rattle.matrix.specs.Block.{view}
use Rattle.matrix.proofs.Tests.{all-below}
use Rattle.matrix.proofs.refusals.row_allowed.Goals as goal

pub returns : goal.returns
returns c =
    all_from_yields_List (λ k. ltb (view c.args.m c.args.r k) 16) _ _ _ c.all.ensures.ran (YieldsList-from_range 0 c.args.l c.args.l refl (omega arith)) (λ x b q k. search (rules, tests))
    ∙ all-below (λ k. ltb (view c.args.m c.args.r k) 16) c.args.l
