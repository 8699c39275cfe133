-- `public_map::block_rows::add_rows` meets its contract: the two parts are added one after the other. Rests on MapRows.
use Rattle.rows.specs.PlusRows.{rows_then}
use Rattle.words.specs.Multiples.{fewer-multiples}
use Rattle.public_map.specs.MapRows.{split_row}
use Rattle.sets.specs.Rooms.{kept-room}
use native.Mathlib.Nat.{le_trans}
use native.Mathlib.Omega.{arith}
use Rattle.sets.proofs.Bounds.{bounds_of}
use Rattle.public_map.proofs.block_rows.add_rows.Goals as goal

pub overflow_mul-n : goal.overflow_mul-n
overflow_mul-n c = omega (arith, (bounds_of c.args.set).products.ll)

pub add_blocks-requires : goal.add_blocks-requires
add_blocks-requires c =
    let bounds = bounds_of c.args.set in record { n_in_bounds = (omega (arith, c.requires.l_in_bounds.0), c.requires.l_bound.0); l_in_bounds = (omega (arith, c.requires.l_in_bounds.1), (bounds.products.vll, (bounds.limits.v-least, (omega (arith, bounds.limits.l-least), bounds.limits.l-most)))) }

pub add_blocks-requires-2 : goal.add_blocks-requires-2
add_blocks-requires-2 c =
    let bounds = bounds_of c.args.set in record { n_in_bounds = (omega (arith, kept-room c.requires.l_in_bounds.0 c.add_blocks.auto.dst), c.requires.l_bound.1); l_in_bounds = (c.requires.l_in_bounds.1, (le_trans bounds.limits.row (omega arith), (bounds.limits.o-least, (omega (arith, bounds.limits.l-least), bounds.limits.l-most)))) }

-- both parts, one after the other, for every table that the multiples are of
pub returns : goal.returns
unfolding split_row
returns c =
    λ w m.
    rows_then (c.add_blocks.ensures w (fewer-multiples m (omega arith)))
    (c.add_blocks-2.ensures w (fewer-multiples m (omega arith)))
