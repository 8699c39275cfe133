-- `keccak::permute` meets its contract: the lanes are taken from the array, permuted and given back.
-- Rests on what `rounds` ensures and on the two conversions.
use Rattle.std.proofs.Common.{◌≡◌, ◌∙◌, ap, length, rules}
use Rattle.keccak.specs.Keccak.{keccak_f}
use Rattle.keccak.specs.Lanes.{listed, listed-lanes}
use Rattle.keccak.proofs.permute.Goals as goal

pub returns : goal.returns
returns c =
    let a = c.args.a in
    let long : length a ≡ 25 = search rules in
    c.into.ensures ∙ c.rounds.ensures ∙ ap keccak_f (ap listed c.from.ensures ∙ listed-lanes a long)
