-- `field::mul` meets its contract: the four multiples of a, those chosen that b has (`mul-chosen`).
-- A callee with no `requires` asks nothing: `(λ _ _. tt)`.
use Rattle.std.proofs.Common.{refl, ◌∙◌}
use Rattle.field.specs.Laws.{mul-chosen}
use Rattle.field.proofs.mul.Goals as goal

pub returns : goal.returns
returns c =
    c.chosen.ensures
    ∙ mul-chosen c.args.a c.args.b _ _ _ _ refl c.twice-a2.ensures
    c.twice-a4.ensures
    c.twice-a8.ensures

pub twice-a2-requires : goal.twice-a2-requires
twice-a2-requires c = tt

pub twice-a4-requires : goal.twice-a4-requires
twice-a4-requires c = tt

pub twice-a8-requires : goal.twice-a8-requires
twice-a8-requires c = tt

pub chosen-requires : goal.chosen-requires
chosen-requires c = tt
