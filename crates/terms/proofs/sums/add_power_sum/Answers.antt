-- `terms::add_power_sum` meets its contract. The invariant: the first `row` rows have gained. Rests on Gain.
use Rattle.std.proofs.Common.{length, ◌*◌}
use native.Mathlib.Nat.{le_refl}
use Rattle.terms.specs.Gain.{square-within, start-within, gain-row-within, scalar-within, gaining-none, gaining-next, gaining-end}
use native.Mathlib.Omega.{arith}
use Rattle.terms.proofs.sums.add_power_sum.Goals as goal

pub overflow_mul-n : goal.overflow_mul-n
overflow_mul-n c = omega (arith, square-within c.args.l (length c.args.y.now) c.requires.1.1)

pub overflow_mul-first : goal.overflow_mul-first
overflow_mul-first c = omega (arith, start-within c.args.j c.args.l (length c.args.w.now) c.requires.1.0)

pub loop-row-init : goal.loop-row-init
loop-row-init c = gaining-none

pub overflow_mul-row : goal.overflow_mul-row
overflow_mul-row c =
    omega (arith, gain-row-within c.args.l c.loop-row.row c.args.at (length c.args.sums.now) c.loop-row-test.true c.requires.0)

pub overflow_add-at : goal.overflow_add-at
overflow_add-at c =
    omega (arith, gain-row-within c.args.l c.loop-row.row c.args.at (length c.args.sums.now) c.loop-row-test.true c.requires.0)

pub overflow_add-first : goal.overflow_add-first
overflow_add-first c =
    let l = c.args.l in
    omega (arith, square-within l (l * (l * l)) (le_refl (l * (l * l))), c.requires.1.0)

pub add_columns-requires : goal.add_columns-requires
add_columns-requires c =
    let a = c.args in
    let row = c.loop-row.row in
    let taken = c.loop-row-test.true in record { n_in_bounds = omega (arith, gain-row-within a.l row a.at (length a.sums.now) taken c.requires.0, c.loop-row.invariant.so_far.long, c.requires.1.1); by_index = λ x h. omega (arith, scalar-within a.l a.j row x (length a.w.now) taken h c.requires.1.0) }

pub loop-row-preserved : goal.loop-row-preserved
loop-row-preserved c =
    gaining-next c.loop-row.invariant c.loop-row-test.true c.add_columns.ensures

pub returns : goal.returns
returns c = gaining-end c.loop-row.invariant c.loop-row-test.false
