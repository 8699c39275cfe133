-- `matrix::coefficients_allowed` meets its contract: that the first l pass, in std's words, is the page's test. Rests on Tests.
use Rattle.std.proofs.Common.{rules, tests, ◌∙◌, ltb, take, arith}
use Rattle.std.proofs.lemmas.Iterator.{YieldsList-from_slice}
use Rattle.std.proofs.lemmas.Iterator.Search.{all_from_yields_List}
use Rattle.matrix.specs.Limits.{coefficients_allowed}
use Rattle.matrix.proofs.Tests.{all-first}
use Rattle.matrix.proofs.refusals.coefficients_allowed.Goals as goal

pub returns : goal.returns
unfolding coefficients_allowed
returns c =
    all_from_yields_List (λ x. ltb x 16) _ _ _ c.all.ensures.ran (YieldsList-from_slice (take c.args.l c.args.a) cc) (λ x b q k. search (rules, tests))
    ∙ all-first (λ x. ltb x 16) c.args.a c.args.l (omega arith)
