-- `matrix::filled` meets its contract. The invariant: the bytes so far are those of the block of each matrix whose entries f gives.
use Rattle.std.proofs.Common.{◌≡◌, ℕ, ◌<◌}
use Rattle.matrix.specs.Matrix.{Matrix}
use Rattle.matrix.specs.Block.{stride}
use Rattle.matrix.specs.Filling.{Filling}
use Rattle.matrix.proofs.blocks.filled.Given as goal

abbrev pub invariant-loop-e : goal.invariant-loop-e
invariant-loop-e g l =
    (M : Matrix) → ((r c x : ℕ) → r < l.l → c < l.l → r < stride → c < stride → goal.F-post g l.f r c x → x ≡ M r c) → Filling l.l M l.out l.e
