-- `public_map::block_rows::vinegar_rows` meets its contract: P11 and P12 of row j are a row of P. Rests on MapRows and on streams' Numbers.
use Rattle.tables.specs.Table.{cleared}
use Rattle.streams.specs.Numbers.{public-within}
use Rattle.public_map.specs.MapRows.{vinegar-holds}
use native.Mathlib.Omega.{arith}
use Rattle.sets.specs.Numbers.{numbers}
use Rattle.sets.proofs.Bounds.{bounds_of}
use Rattle.public_map.proofs.block_rows.vinegar_rows.Goals as goal

pub p11_number-first-requires : goal.p11_number-first-requires
p11_number-first-requires c = c.requires.i_lt_o

pub p12_number-second-requires : goal.p12_number-second-requires
p12_number-second-requires c = c.requires.i_lt_o

pub add_rows-requires : goal.add_rows-requires
add_rows-requires c =
    let a = c.args in
    let bounds = bounds_of c.args.set in
    let left = c.p11_number-first.ensures.within in
    let right = c.p12_number-second.ensures.within in record { l_in_bounds = (omega (arith, c.requires.l_in_bounds.0, c.clear.auto.s), c.requires.l_in_bounds.1); l_bound = (public-within bounds a.public.now c.requires.public_len.0 left, public-within bounds a.public.now c.requires.public_len.0 right) }

pub returns : goal.returns
returns c =
    let a = c.args in
    let first = c.p11_number-first.ensures.is in
    let second = c.p12_number-second.ensures.is in
    let empty = cleared a.y.now c.clear.ensures in
    λ w m. vinegar-holds (numbers a.set) a.public.now a.key.now w a.i a.j c.requires.i_lt_o.1 first second empty (c.add_rows.ensures w m)
