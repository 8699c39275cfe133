-- `signing::load_vinegar` meets its contract: the vinegar unpacked, then times each power of S (`vinegar-powers`). Rests on Building.
-- A table that is lent again is as long as it was made: each call keeps its length (`kept`).
use Rattle.std.proofs.Common.{refl, sym, ◌∙◌}
use Rattle.signing.specs.Emitting.{some-l, vinegar-within}
use Rattle.signing.specs.Building.{vinegar-powers}
use native.Mathlib.Omega.{arith}
use Rattle.sets.specs.Numbers.{numbers}
use Rattle.sets.proofs.Bounds.{bounds_of}
use Rattle.signing.proofs.solving.load_vinegar.Goals as goal

pub slice_bounds-unpack_all-end : goal.slice_bounds-unpack_all-end
slice_bounds-unpack_all-end c = refl

pub unpack_all-requires : goal.unpack_all-requires
unpack_all-requires c =
    let b = bounds_of c.args.set in
    let n = c.vinegar_count-count.ensures in
    (omega (arith, n, b.sizes.vinegar), omega (arith, n, vinegar-within (numbers c.args.set) c.requires.vinegar_len))

pub slice_bounds-power_table-end : goal.slice_bounds-power_table-end
slice_bounds-power_table-end c = sym c.unpack_all.auto.dst

pub power_table-requires : goal.power_table-requires
power_table-requires c =
    let b = bounds_of c.args.set in
    record { l_nonzero = (some-l b, c.requires.l_in_bounds.0, omega (arith, b.products.vll, c.unpack_all.auto.dst), c.requires.l_in_bounds.1.0); powers = c.requires.l_in_bounds.1.1 }

pub returns : goal.returns
returns c =
    vinegar-powers (numbers c.args.set) (c.vinegar_count-count.ensures ∙ (bounds_of c.args.set).counts.vinegar) c.unpack_all.ensures
    c.power_table.ensures
