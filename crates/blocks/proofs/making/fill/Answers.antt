-- `blocks::fill` meets its contract: opening, payload with padding, check, each put in its place. Rests on Made.
use Rattle.std.proofs.Common.{◌≡◌, ◌/◌, ◌%◌, arith}
use Rattle.blocks.specs.Made.{filled}
use Rattle.blocks.proofs.making.fill.Goals as goal

pub returns : goal.returns
returns c =
    let w = c.check_of-check.result in
    let last : w / 16777216 % 256 ≡ w / 16777216 = omega arith in
    filled _ _ _ c.requires.1 c.requires.0 c.opening-first.ensures c.put.ensures c.put-2.ensures c.check_of-check.ensures (cc) c.put-3.ensures
