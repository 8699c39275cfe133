-- `partial_sums::right::fill_by_multiples` meets its contract. The invariant: the rows of the first i matrix indices are there, in both tables, and those of the next have their places.
-- Rests on Filled.
use Rattle.std.proofs.Common.{refl, ◌*◌}
use Rattle.sets.specs.Rooms.{vinegar_powers_room}
use Rattle.rows.specs.Zero.{length-zeros}
use Rattle.tables.specs.Sums.{transposed-loaded}
use Rattle.partial_sums.specs.Products.{stacking-none, stacking-next, stacking-end}
use Rattle.partial_sums.specs.Filled.{right-filled, sums-filled}
use Rattle.partial_sums.specs.SumPlaces.{table-sizes, stack-fits}
use native.Mathlib.Omega.{arith}
use Rattle.sets.specs.Numbers.{numbers}
use Rattle.sets.proofs.Bounds.{bounds_of}
use Rattle.partial_sums.proofs.right.fill_by_multiples.Goals as goal

pub loop-i-init : goal.loop-i-init
loop-i-init c =
    let s = numbers c.args.set in
    record {
      sizes = table-sizes (bounds_of c.args.set);
      room = length-zeros vinegar_powers_room;
      right-place = stack-fits (s.o * s.l) (s.l * s.l);
      sums-place = stack-fits (s.l * s.l) (s.l * s.l);
      right = stacking-none;
      sums = stacking-none;
    }

pub loop-i-preserved : goal.loop-i-preserved
loop-i-preserved c =
    let a = c.args in
    let s = numbers a.set in
    let i = c.loop-i.invariant in
    let of-x = c.requires.l_in_bounds.1 in
    let loaded = c.load_products in
    record {
      sizes = i.sizes;
      room = omega (arith, loaded.auto.y, i.room);
      right-place = stack-fits (s.o * s.l) (s.l * s.l);
      sums-place = stack-fits (s.l * s.l) (s.l * s.l);
      right = stacking-next i.right c.loop-i-test.true refl (c.add_right_index.ensures _ of-x (loaded.ensures _ of-x));
      sums = stacking-next i.sums c.loop-i-test.true refl (transposed-loaded a.x.now 0 (s.v * s.l) c.add_transposed.ensures (loaded.ensures _ of-x));
    }

pub returns : goal.returns
returns c =
    let a = c.args in
    let end = c.loop-i-test.false in record {
      right_holds = right-filled (numbers a.set) a.public.now a.x.now a.t.now a.right.now c.clear.ensures
          (stacking-end c.loop-i.invariant.right end);
      sums_hold = sums-filled (numbers a.set) a.public.now a.x.now a.sums.now c.clear-2.ensures (stacking-end c.loop-i.invariant.sums end);
    }
