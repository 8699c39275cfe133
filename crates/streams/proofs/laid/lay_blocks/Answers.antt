-- `streams::lay_blocks` meets its contract: the bytes that the blocks stand in are spread, and the first block begins at an even or an odd element (`laid_from`).
use Rattle.std.proofs.Common.{◌≡◌, refl, ◌+◌, ◌-◌, ◌*◌, ◌/◌, ◌%◌}
use Rattle.packing.specs.Packing.{packed_bytes}
use Rattle.streams.specs.Laid.{laid_from}
use native.Mathlib.Omega.{arith}
use Rattle.streams.proofs.laid.lay_blocks.Goals as goal

pub returns : goal.returns
unfolding packed_bytes
returns c =
    let l = c.args.l in
    let from = c.args.number * (l * l) in
    let end = (c.args.number + c.args.count) * (l * l) in
    let n-is : c.packed_bytes.result - from / 2 ≡ end / 2 + end % 2 - from / 2 = omega (arith, c.packed_bytes.ensures) in
    laid_from _ _ _ _ refl refl n-is c.spread.ensures
