-- `keys::elements::write_elements` meets its contract. The invariant: the elements of the first i equations are written. Rests on Elements and Parts.
use Rattle.std.proofs.Common.{refl, ◌∙◌}
use Rattle.keys.specs.Parts.{f21-holds, p22-holds}
use Rattle.keys.specs.Elements.{writing-none, writing-next, writing-end}
use native.Mathlib.Omega.{arith}
use Rattle.sets.specs.Numbers.{numbers}
use Rattle.keys.proofs.elements.write_elements.Goals as goal

pub loop-i-init : goal.loop-i-init
loop-i-init c = (writing-none, refl, refl)

pub f21_table-requires : goal.f21_table-requires
f21_table-requires c =
    record { i_lt_o = (c.loop-i-test.true, c.requires.public_len.0); l_in_bounds = (omega (arith, c.loop-i.invariant.1, c.requires.l_in_bounds.0), c.requires.public_len.2) }

pub p22_table-requires : goal.p22_table-requires
p22_table-requires c =
    let f-long = c.f21_table.ensures.long in record { i_lt_o = (c.loop-i-test.true, c.requires.public_len.0); l_in_bounds = (omega (arith, c.loop-i.invariant.2, c.requires.l_in_bounds.1), c.requires.public_len.2, omega (arith, c.loop-i.invariant.1, f-long, c.requires.l_in_bounds.0)) }

pub put_p22-requires : goal.put_p22-requires
put_p22-requires c =
    let table = c.p22_table.ensures in record { i_lt_o = (c.loop-i-test.true, c.loop-i.invariant.0.long ∙ c.requires.public_len.1, omega (arith, c.loop-i.invariant.2, table.long, c.requires.l_in_bounds.1)); by_index = table.below }

pub loop-i-smaller : goal.loop-i-smaller
loop-i-smaller c =
    omega (arith, c.loop-i-test.true)

pub loop-i-preserved : goal.loop-i-preserved
loop-i-preserved c =
    let p22-table = c.p22_table.ensures in
    let f21-table = c.f21_table.ensures in
    let inv = c.loop-i.invariant in
    let set = numbers c.args.set in
    let public = c.args.public.now in
    let i = c.loop-i.i in (
      writing-next inv.0 c.loop-i-test.true
          (λ private h. p22-holds set public private i h (f21-holds set public private i h f21-table.holds) p22-table.holds)
          c.put_p22.ensures,
      f21-table.long ∙ inv.1,
      p22-table.long ∙ inv.2,
    )

pub returns : goal.returns
returns c = writing-end c.loop-i.invariant.0 c.loop-i-test.false
