-- `partial_sums::left::fill_left` meets its contract. The invariant: the rows of the first i matrix indices are there, and those of the next have their place. Rests on Filled.
use Rattle.std.proofs.Common.{refl, ◌*◌}
use Rattle.partial_sums.specs.Products.{stacking-none, stacking-next, stacking-end}
use Rattle.partial_sums.specs.Filled.{left-filled}
use Rattle.partial_sums.specs.SumPlaces.{table-sizes, stack-fits}
use Rattle.sets.specs.Numbers.{numbers}
use Rattle.sets.proofs.Bounds.{bounds_of}
use Rattle.partial_sums.proofs.left.fill_left.Goals as goal

pub loop-i-init : goal.loop-i-init
loop-i-init c =
    let s = numbers c.args.set in
    record { sizes = table-sizes (bounds_of c.args.set); stack = stack-fits (s.l * s.l) (s.o * s.l); rows = stacking-none }

pub loop-i-preserved : goal.loop-i-preserved
loop-i-preserved c =
    let s = numbers c.args.set in
    let i = c.loop-i.invariant in
    record { sizes = i.sizes; stack = stack-fits (s.l * s.l) (s.o * s.l); rows = stacking-next i.rows c.loop-i-test.true refl c.add_left_index.ensures }

pub returns : goal.returns
returns c =
    let a = c.args in
    left-filled (numbers a.set) a.public.now a.x.now a.t.now a.left.now c.clear.ensures (stacking-end c.loop-i.invariant.rows c.loop-i-test.false)
