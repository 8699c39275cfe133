-- `rows::add_columns` meets its contract. The loop's invariant: x rows are added, and `from` is where the next begins. Rests on the laws of Combine.
use Rattle.std.proofs.Common.{refl, rules}
use Rattle.rows.specs.Combine.{combining-none, combining-next}
use Rattle.rows.proofs.add_columns.Goals as goal

pub loop-x-init : goal.loop-x-init
loop-x-init c = combining-none (search rules)

pub loop-x-preserved : goal.loop-x-preserved
loop-x-preserved c =
    combining-next c.loop-x.invariant c.loop-x-test.true refl c.add_scaled.ensures
