-- The test of each byte, by each_digit.
use Rattle.std.proofs.Common.{◌∙◌, rules, tests}
use Rattle.std.proofs.lemmas.Iterator.{YieldsList-from_slice}
use Rattle.std.proofs.lemmas.Iterator.Search.{all_from_yields_List}
use Rattle.std.specs.Char.{is_ascii_hexdigit}
use Rattle.response_lines.proofs.Decoding.{each_digit}
use Rattle.response_lines.proofs.digits.all_digits.Goals as goal

pub returns : goal.returns
returns c =
    all_from_yields_List is_ascii_hexdigit _ _ c.all.result c.all.ensures.ran (YieldsList-from_slice c.args.digits.now cc) (λ x b q k. search (rules, tests)) ∙ each_digit c.args.digits.now
