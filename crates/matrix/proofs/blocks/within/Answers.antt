-- `matrix::within` meets its contract: each branch is one case of the pick.
use Rattle.std.proofs.Common.{◌≡◌, sym, ◌∙◌, true, false}
use Rattle.matrix.specs.Block.{inside}
use Rattle.matrix.proofs.blocks.within.Goals as goal

pub returns-then-inside : goal.returns-then-inside
returns-then-inside c = let test : inside _ _ ≡ true = sym c.inside.ensures ∙ c.if-inside.true in rw test

pub returns-else-inside : goal.returns-else-inside
returns-else-inside c = let test : inside _ _ ≡ false = sym c.inside.ensures ∙ c.if-inside.false in rw test
