-- `blocks::is_padded` meets its contract: the test of each byte of the part, by Steps.
use Rattle.std.proofs.Common.{◌≡◌, ◌+◌, ◌-◌, ◌∙◌, ap, eqb, take, drop, arith, rules, tests}
use Rattle.std.specs.List.{list_all}
use Rattle.std.proofs.lemmas.Iterator.{YieldsList-from_slice}
use Rattle.std.proofs.lemmas.Iterator.Search.{all_from_yields_List}
use Rattle.blocks.specs.Steps.{all-every}
use Rattle.blocks.proofs.block.is_padded.Goals as goal

pub returns : goal.returns
returns c =
    let s = c.args.block.now in
    let from = 8 + c.args.size in
    let n : 508 - from ≡ 500 - c.args.size = omega arith in
    all_from_yields_List (λ x. eqb x 0) _ _ c.all.result c.all.ensures.ran (YieldsList-from_slice (take (508 - from) (drop from s)) cc) (λ x b q k. search (rules, tests))
    ∙ ap (λ m. list_all (λ x. eqb x 0) (take m (drop from s))) n
    ∙ all-every (λ x. eqb x 0) s from (500 - c.args.size) (omega arith)
