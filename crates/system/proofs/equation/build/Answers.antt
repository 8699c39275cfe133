-- `system::equation::build` meets its contract. The invariant: the rows of the first i equations are there, and those of the next have their place. Rests on Equation.
use Rattle.std.proofs.Common.{refl, ◌+◌, ◌*◌}
use Rattle.partial_sums.specs.Products.{stacking-none, stacking-next, stacking-end}
use Rattle.partial_sums.specs.SumPlaces.{table-sizes, stack-fits}
use Rattle.system.specs.Equation.{built}
use Rattle.sets.specs.Numbers.{numbers}
use Rattle.sets.proofs.Bounds.{bounds_of}
use Rattle.system.proofs.equation.build.Goals as goal

pub loop-i-init : goal.loop-i-init
loop-i-init c =
    let s = numbers c.args.set in
    record { sizes = table-sizes (bounds_of c.args.set); place = stack-fits (s.l * s.l) (s.o * s.l * s.l + 1); rows = stacking-none }

pub loop-i-preserved : goal.loop-i-preserved
loop-i-preserved c =
    let s = numbers c.args.set in
    let i = c.loop-i.invariant in
    record { sizes = i.sizes; place = stack-fits (s.l * s.l) (s.o * s.l * s.l + 1); rows = stacking-next i.rows c.loop-i-test.true refl c.add_equation.ensures }

pub returns : goal.returns
returns c =
    let a = c.args in
    built (numbers a.set) a.abq.now a.target.now a.left.now a.right.now a.sums.now a.sp.now a.g.now
    c.clear.ensures (stacking-end c.loop-i.invariant.rows c.loop-i-test.false)
