-- `matrix::entries_allowed` meets its contract: that all rows below l pass, in std's words, is the page's test. Rests on Tests.
use Rattle.std.proofs.Common.{rules, arith, tests, ◌∙◌, refl, ltb}
use Rattle.std.proofs.lemmas.Iterator.{YieldsList-from_range}
use Rattle.std.proofs.lemmas.Iterator.Search.{all_from_yields_List}
use Rattle.ground.specs.Tests.{every}
use Rattle.matrix.specs.Block.{view}
use Rattle.matrix.specs.Limits.{entries_allowed}
use Rattle.matrix.proofs.Tests.{all-below}
use Rattle.matrix.proofs.refusals.entries_allowed.Goals as goal

pub returns : goal.returns
unfolding entries_allowed
returns c =
    all_from_yields_List (λ r. every c.args.l (λ k. ltb (view c.args.m r k) 16)) _ _ _ c.all.ensures.ran (YieldsList-from_range 0 c.args.l c.args.l refl (omega arith)) (λ x b q k. search (rules, tests))
    ∙ all-below (λ r. every c.args.l (λ k. ltb (view c.args.m r k) 16)) c.args.l
