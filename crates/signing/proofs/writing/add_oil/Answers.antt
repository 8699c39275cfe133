-- `signing::add_oil` meets its contract. The invariant: the first y rows have gained T12 times the oil, and the next has its place.
use Rattle.std.proofs.Common.{refl}
use Rattle.tables.specs.Table.{filling-none, filling-next, filling-end}
use Rattle.signing.specs.Emitting.{oil-turn}
use native.Mathlib.Omega.{arith}
use Rattle.sets.specs.Numbers.{numbers}
use Rattle.sets.proofs.Bounds.{bounds_of}
use Rattle.signing.proofs.writing.add_oil.Goals as goal

pub overflow_mul-w : goal.overflow_mul-w
overflow_mul-w c = omega (arith, (bounds_of c.args.set).products.ol)

pub overflow_mul-count : goal.overflow_mul-count
overflow_mul-count c = omega (arith, (bounds_of c.args.set).products.vl)

pub loop-y-init : goal.loop-y-init
loop-y-init c = record { turn = oil-turn (numbers c.args.set); rows = filling-none }

pub loop-y-preserved : goal.loop-y-preserved
loop-y-preserved c =
    record { turn = oil-turn (numbers c.args.set); rows = filling-next c.loop-y.invariant.rows c.loop-y-test.true refl c.add_columns.ensures }

pub returns : goal.returns
returns c = filling-end c.loop-y.invariant.rows c.loop-y-test.false
