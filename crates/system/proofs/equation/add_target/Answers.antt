-- `system::equation::add_target` meets its contract. The invariant: the last bytes of the first e rows have gained, and the next row and element have their places. Rests on Equation.
use Rattle.std.proofs.Common.{◌≡◌, refl, ◌+◌, ◌*◌, length, rules}
use lib.Arith.{digits_lt}
use Rattle.matrix.specs.Block.{block_bytes}
use Rattle.tables.specs.Sums.{adding-none, adding-next, adding-end}
use Rattle.system.specs.Sides.{row-turn}
use Rattle.partial_sums.specs.SumPlaces.{table-sizes}
use Rattle.system.specs.Equation.{target-step, target-within}
use native.Mathlib.Omega.{arith}
use Rattle.sets.specs.Numbers.{numbers}
use Rattle.sets.proofs.Bounds.{bounds_of}
use Rattle.system.proofs.equation.add_target.Goals as goal

pub loop-e-init : goal.loop-e-init
loop-e-init c =
    let s = numbers c.args.set in
    let limits = (bounds_of c.args.set).limits in
    record {
      sizes = table-sizes (bounds_of c.args.set);
      turn = row-turn s.l (s.o * s.l * s.l + 1) (omega (arith, limits.l-least)) (omega (arith, limits.l-most));
      number = digits_lt c.requires.i_lt_o;
      rows = adding-none;
    }

pub add_scaled-requires : goal.add_scaled-requires
add_scaled-requires c =
    let size : length c.args.known ≡ block_bytes = search rules in
    let i = c.loop-e.invariant in
    let here = i.turn c.loop-e-test.true in
    (omega (arith, here.row, c.requires.l_in_bounds.0, i.rows.so_far.long), omega (arith, here.high, here.low, (bounds_of c.args.set).limits.l-most, size))

pub add_elements-requires : goal.add_elements-requires
add_elements-requires c =
    let i = c.loop-e.invariant in (
      omega (arith, (i.turn c.loop-e-test.true).row, c.requires.l_in_bounds.0, i.rows.so_far.long, c.add_scaled.auto.dst),
      omega (arith, i.number c.loop-e-test.true, target-within (bounds_of c.args.set) c.requires.l_in_bounds.1),
    )

pub loop-e-preserved : goal.loop-e-preserved
loop-e-preserved c =
    let a = c.args in
    let s = numbers a.set in
    let limits = (bounds_of c.args.set).limits in
    record {
      sizes = c.loop-e.invariant.sizes;
      turn = row-turn s.l (s.o * s.l * s.l + 1) (omega (arith, limits.l-least)) (omega (arith, limits.l-most));
      number = digits_lt c.requires.i_lt_o;
      rows =
          adding-next c.loop-e.invariant.rows c.loop-e-test.true
          (target-step s.l (s.o * s.l * s.l) (s.l * s.l) a.known a.target.now a.i c.loop-e.e refl c.add_scaled.ensures c.add_elements.ensures);
    }

pub returns : goal.returns
returns c = adding-end c.loop-e.invariant.rows c.loop-e-test.false
