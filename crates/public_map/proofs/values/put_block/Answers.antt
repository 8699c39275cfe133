-- `public_map::values::put_block` meets its contract. The invariant: the first e places hold their entries.
use native.Mathlib.Nat.{mod-lt, div-lt_iff_lt-mul}
use Rattle.ground.specs.Segment.{segment-none, segment-next, segment-end}
use native.Mathlib.Omega.{arith}
use Rattle.public_map.proofs.values.put_block.Goals as goal

pub overflow_mul-n : goal.overflow_mul-n
overflow_mul-n c = omega (arith, c.requires.1.1)

pub loop-e-init : goal.loop-e-init
loop-e-init c = (omega arith, segment-none)

pub entry-requires : goal.entry-requires
entry-requires c =
    let row = (div-lt_iff_lt-mul c.requires.0).1 c.loop-e-test.true in
    (omega (arith, row, c.requires.1.0), omega (arith, mod-lt c.loop-e.e c.requires.0, c.requires.1.0))

pub bounds-values-at : goal.bounds-values-at
bounds-values-at c = omega (arith, c.loop-e-test.true, c.loop-e.invariant.1.long, c.requires.1.1)

pub loop-e-preserved : goal.loop-e-preserved
loop-e-preserved c =
    (omega (arith, c.loop-e-test.true), segment-next c.loop-e.invariant.1 (omega (arith, c.loop-e-test.true, c.requires.1.1)) c.entry.result c.entry.ensures)

pub returns : goal.returns
returns c = segment-end c.loop-e.invariant.1 c.loop-e.invariant.0 c.loop-e-test.false

pub loop-e-smaller : goal.loop-e-smaller
loop-e-smaller c = omega arith
