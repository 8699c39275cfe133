-- `public_map::block_rows::oil_rows` meets its contract: P21 and P22 of row k are row v + k of P. Rests on MapRows and on streams' Numbers.
use Rattle.tables.specs.Table.{cleared}
use Rattle.streams.specs.Numbers.{public-within, key-within}
use Rattle.public_map.specs.MapRows.{oil-holds}
use native.Mathlib.Omega.{arith}
use Rattle.sets.specs.Numbers.{numbers}
use Rattle.sets.proofs.Bounds.{bounds_of}
use Rattle.public_map.proofs.block_rows.oil_rows.Goals as goal

pub p21_number-first-requires : goal.p21_number-first-requires
p21_number-first-requires c = c.requires.i_lt_o

pub p22_number-second-requires : goal.p22_number-second-requires
p22_number-second-requires c = c.requires.i_lt_o

pub add_rows-requires : goal.add_rows-requires
add_rows-requires c =
    let a = c.args in
    let bounds = bounds_of c.args.set in
    let left = c.p21_number-first.ensures.within in
    let right = c.p22_number-second.ensures.within in record { l_in_bounds = (omega (arith, c.requires.l_in_bounds.0, c.clear.auto.s), c.requires.l_in_bounds.1); l_bound = (public-within bounds a.public.now c.requires.public_len.0 left, key-within bounds a.key.now c.requires.public_len.1 right) }

pub returns : goal.returns
returns c =
    let a = c.args in
    let first = c.p21_number-first.ensures.is in
    let second = c.p22_number-second.ensures.is in
    let empty = cleared a.y.now c.clear.ensures in
    λ w m. oil-holds (numbers a.set) a.public.now a.key.now w a.i a.k first second empty (c.add_rows.ensures w m)
