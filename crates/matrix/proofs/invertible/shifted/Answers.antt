-- `matrix::shifted` meets its contract: blocks that hold the same entries inside l are equal.
use Rattle.std.proofs.Common.{◌∙◌}
use Rattle.matrix.specs.Same.{same_refl, same-trans, same_add, same_scale}
use Rattle.matrix.specs.Block.{holds, block_same}
use Rattle.matrix.specs.Invertible.{shift}
use Rattle.matrix.proofs.invertible.shifted.Goals as goal

pub returns : goal.returns
unfolding shift
returns c =
    let multiple = holds c.requires c.scaled.ensures in
    let s = holds c.requires c.s_matrix.ensures in
    c.plus.ensures ∙ block_same (same_add same_refl (same-trans multiple (same_scale c.args.a s)))
