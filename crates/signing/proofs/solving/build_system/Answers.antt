-- `signing::build_system` meets its contract: each table is filled from the one before, and the built rows are page 01's system (`system-holds`). Rests on Building.
-- A table that is lent again is as long as it was made: each call keeps its length (`kept`).
use Rattle.std.proofs.Common.{refl, sym}
use Rattle.scheme.specs.Streams.{vinegar_of}
use Rattle.system.specs.System.{system-holds}
use Rattle.sets.specs.Rooms.{kept-room, powers-room, private-room, vinegar-powers-room, left-room, right-room, sums-room}
use Rattle.signing.specs.Building.{built-from, system-room}
use native.Mathlib.Omega.{arith}
use Rattle.sets.specs.Numbers.{numbers}
use Rattle.sets.proofs.Bounds.{bounds_of}
use Rattle.signing.proofs.solving.build_system.Goals as goal

pub slice_bounds-powers_of_s-end : goal.slice_bounds-powers_of_s-end
slice_bounds-powers_of_s-end c = refl

pub powers_of_s-requires : goal.powers_of_s-requires
powers_of_s-requires c = let b = bounds_of c.args.set in (omega (arith, b.limits.l-most), powers-room b)

pub slice_bounds-private_table-end : goal.slice_bounds-private_table-end
slice_bounds-private_table-end c = refl

pub slice_bounds-private_table-end-2 : goal.slice_bounds-private_table-end-2
slice_bounds-private_table-end-2 c = sym c.powers_of_s.auto.sp

pub private_table-requires : goal.private_table-requires
private_table-requires c =
    let b = bounds_of c.args.set in
    let sp = c.powers_of_s in
    record { private_len = (c.requires.public_len.1, private-room b, kept-room (powers-room b) sp.auto.sp); powers = sp.ensures.holds }

pub slice_bounds-load_vinegar-end : goal.slice_bounds-load_vinegar-end
slice_bounds-load_vinegar-end c = refl

pub slice_bounds-load_vinegar-end-2 : goal.slice_bounds-load_vinegar-end-2
slice_bounds-load_vinegar-end-2 c = sym c.powers_of_s.auto.sp

pub load_vinegar-requires : goal.load_vinegar-requires
load_vinegar-requires c =
    let b = bounds_of c.args.set in
    let sp = c.powers_of_s in
    record { vinegar_len = c.requires.vinegar_len.0; l_in_bounds = (vinegar-powers-room b, (kept-room (powers-room b) sp.auto.sp, sp.ensures.holds)) }

pub slice_bounds-fill_left-end : goal.slice_bounds-fill_left-end
slice_bounds-fill_left-end c = refl

pub slice_bounds-fill_left-end-2 : goal.slice_bounds-fill_left-end-2
slice_bounds-fill_left-end-2 c = sym c.load_vinegar.auto.x

pub slice_bounds-fill_left-end-3 : goal.slice_bounds-fill_left-end-3
slice_bounds-fill_left-end-3 c = sym c.private_table.auto.t

pub fill_left-requires : goal.fill_left-requires
fill_left-requires c =
    let b = bounds_of c.args.set in record {
      left_len = left-room b;
      public_len = (
        c.requires.public_len.0,
        (
          kept-room (vinegar-powers-room b) c.load_vinegar.auto.x,
          kept-room (private-room b)
              c.private_table.auto.t,
        ),
      );
    }

pub slice_bounds-fill_right-end : goal.slice_bounds-fill_right-end
slice_bounds-fill_right-end c = refl

pub slice_bounds-fill_right-end-2 : goal.slice_bounds-fill_right-end-2
slice_bounds-fill_right-end-2 c = refl

pub slice_bounds-fill_right-end-3 : goal.slice_bounds-fill_right-end-3
slice_bounds-fill_right-end-3 c = sym c.load_vinegar.auto.x

pub slice_bounds-fill_right-end-4 : goal.slice_bounds-fill_right-end-4
slice_bounds-fill_right-end-4 c = sym c.private_table.auto.t

pub fill_right-requires : goal.fill_right-requires
fill_right-requires c =
    let b = bounds_of c.args.set in
    let x = kept-room (vinegar-powers-room b) c.load_vinegar.auto.x in
    let t = kept-room (private-room b) c.private_table.auto.t in
    record { right_len = (right-room b, sums-room b); public_len = (c.requires.public_len.0, (x, t)) }

pub slice_bounds-build-end : goal.slice_bounds-build-end
slice_bounds-build-end c = sym c.fill_left.auto.left

pub slice_bounds-build-end-2 : goal.slice_bounds-build-end-2
slice_bounds-build-end-2 c = sym c.fill_right.auto.right

pub slice_bounds-build-end-3 : goal.slice_bounds-build-end-3
slice_bounds-build-end-3 c = sym c.fill_right.auto.sums

pub slice_bounds-build-end-4 : goal.slice_bounds-build-end-4
slice_bounds-build-end-4 c =
    sym c.powers_of_s.auto.sp

pub build-requires : goal.build-requires
build-requires c =
    let b = bounds_of c.args.set in
    let left = kept-room (left-room b) c.fill_left.auto.left in
    let right = kept-room (right-room b) c.fill_right.auto.right in
    let sp = kept-room (powers-room b) c.powers_of_s.auto.sp in
    let sums = kept-room (sums-room b) c.fill_right.auto.sums in
    record { g_len = system-room (numbers c.args.set) c.requires.vinegar_len.1.1; abq_lent = (c.requires.abq_lent, (c.requires.vinegar_len.1.0, sums)); table_rooms = record { left-fits = left; right-fits = right; powers-fit = sp } }

pub returns : goal.returns
returns c =
    let a = c.args in
    built-from
    (system-holds (numbers a.set) (bounds_of c.args.set) a.public.now a.abq.now a.private.now (vinegar_of (numbers a.set) a.vinegar.now)
    c.load_vinegar.new.x c.private_table.new.t c.fill_left.new.left c.fill_right.new.right
    c.fill_right.new.sums c.powers_of_s.new.sp
    c.load_vinegar.ensures c.private_table.ensures.holds c.powers_of_s.ensures.holds
    c.fill_left.ensures c.fill_right.ensures.right_holds c.fill_right.ensures.sums_hold c.build.ensures)
