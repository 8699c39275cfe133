-- `keys::parts::add_p21` meets its contract. The invariant: the first y rows have gained theirs. Rests on Parts, Places and tables' Table.
use Rattle.std.proofs.Common.{refl}
use Rattle.tables.specs.Table.{filling-none, filling-next, filling-end}
use Rattle.streams.specs.Numbers.{public-within}
use Rattle.keys.specs.KeyPlaces.{RowTurn, row-turn}
use Rattle.keys.specs.Parts.{p21-row}
use native.Mathlib.Omega.{arith}
use Rattle.sets.specs.Numbers.{numbers}
use Rattle.sets.proofs.Bounds.{bounds_of}
use Rattle.keys.proofs.parts.add_p21.Goals as goal

pub overflow_mul-n : goal.overflow_mul-n
overflow_mul-n c = omega (arith, (bounds_of c.args.set).products.vl)

pub overflow_mul-count : goal.overflow_mul-count
overflow_mul-count c = omega (arith, (bounds_of c.args.set).products.ol)

pub loop-y-init : goal.loop-y-init
loop-y-init c = filling-none

pub nonzero_div-y : goal.nonzero_div-y
nonzero_div-y c =
    let turn : RowTurn (numbers c.args.set) c.loop-y.y = row-turn (bounds_of c.args.set) c.loop-y-test.true in
    omega (arith, turn.positive)

pub p21_number-p21-requires : goal.p21_number-p21-requires
p21_number-p21-requires c =
    let turn : RowTurn (numbers c.args.set) c.loop-y.y = row-turn (bounds_of c.args.set) c.loop-y-test.true in
    (c.requires.i_lt_o.0, turn.block)

pub overflow_mul-y : goal.overflow_mul-y
overflow_mul-y c =
    let turn : RowTurn (numbers c.args.set) c.loop-y.y = row-turn (bounds_of c.args.set) c.loop-y-test.true in
    omega (arith, turn.row, c.requires.i_lt_o.2)

pub nonzero_rem-y : goal.nonzero_rem-y
nonzero_rem-y c =
    let turn : RowTurn (numbers c.args.set) c.loop-y.y = row-turn (bounds_of c.args.set) c.loop-y-test.true in
    omega (arith, turn.positive)

pub add_block_row-requires : goal.add_block_row-requires
add_block_row-requires c =
    let turn : RowTurn (numbers c.args.set) c.loop-y.y = row-turn (bounds_of c.args.set) c.loop-y-test.true in (
      omega (arith, turn.row, c.requires.i_lt_o.2, c.loop-y.invariant.so_far.long),
      turn.entry,
      public-within (bounds_of c.args.set) c.args.public.now c.requires.i_lt_o.1 c.p21_number-p21.ensures.within,
    )

pub loop-y-preserved : goal.loop-y-preserved
loop-y-preserved c =
    let a = c.args in
    filling-next c.loop-y.invariant c.loop-y-test.true refl
    (p21-row (numbers a.set) a.public.now a.i c.loop-y.y c.p21_number-p21.ensures.is c.add_block_row.ensures)

pub returns : goal.returns
returns c = filling-end c.loop-y.invariant c.loop-y-test.false
