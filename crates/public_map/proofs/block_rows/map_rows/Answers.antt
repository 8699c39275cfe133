-- `public_map::block_rows::map_rows` meets its contract: a vinegar row or an oil row. Rests on MapRows.
use Rattle.public_map.specs.MapRows.{oil-row}
use native.Mathlib.Omega.{arith}
use Rattle.sets.specs.Numbers.{numbers}
use Rattle.public_map.proofs.block_rows.map_rows.Goals as goal

pub vinegar_rows-requires : goal.vinegar_rows-requires
vinegar_rows-requires c =
    record { i_lt_o = (c.requires.i_lt_o.0, c.if-j-v.true); l_in_bounds = c.requires.l_in_bounds; public_len = c.requires.public_len }

pub returns-then-j-v : goal.returns-then-j-v
returns-then-j-v c = c.vinegar_rows.ensures

pub oil_rows-requires : goal.oil_rows-requires
oil_rows-requires c =
    record { i_lt_o = (c.requires.i_lt_o.0, omega (arith, c.if-j-v.false, c.requires.i_lt_o.1)); l_in_bounds = c.requires.l_in_bounds; public_len = c.requires.public_len }

-- v + (j - v) is j
pub returns : goal.returns
returns c =
    let a = c.args in
    let oil = c.if-j-v.false in
    λ w m. oil-row (numbers a.set) a.public.now a.key.now w a.i a.j (omega (arith, oil)) (c.oil_rows.ensures w m)
