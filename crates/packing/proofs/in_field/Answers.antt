-- `packing::in_field` meets its contract: that all elements pass, in std's words, is the page's test. Rests on `in-field-all`.
use Rattle.std.proofs.Common.{rules, tests, ◌∙◌, leb}
use Rattle.std.proofs.lemmas.Iterator.{YieldsList-from_slice}
use Rattle.std.proofs.lemmas.Iterator.Search.{all_from_yields_List}
use Rattle.packing.proofs.Laws.{in-field-all}
use Rattle.packing.proofs.in_field.Goals as goal

pub returns : goal.returns
returns c =
    all_from_yields_List (λ x. leb x 15) _ _ _ c.all.ensures.ran (YieldsList-from_slice c.args.elements.now cc) (λ x b q k. search (rules, tests))
    ∙ in-field-all c.args.elements.now
