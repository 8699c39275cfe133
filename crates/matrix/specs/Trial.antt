-- A try of Algorithm 2's search, and the next one: always from the original matrix.
-- Rests on Invertible and Block.
use Rattle.std.specs.Prelude.{◌≡◌, ℕ, ◌+◌}
use Rattle.matrix.specs.declared.invertible.Trial.{Trial}
use Rattle.matrix.specs.Invertible.{shift}
use Rattle.matrix.specs.Block.{view, block}

pub record NextTrial (l : ℕ) (before after : Trial) : Type 0 where
  pub original : after.original ≡ before.original
  pub a : after.a ≡ before.a + 1
  pub tried : after.tried ≡ block l (shift l (view before.original) (before.a + 1))
