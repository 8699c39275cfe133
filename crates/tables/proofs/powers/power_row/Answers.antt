-- `tables::power_row` meets its contract. The invariant: the rows for the first b powers are added, side by side. Rests on PowerRows and Turns.
use Rattle.std.proofs.Common.{refl, ◌+◌, ◌*◌, ◌<◌, ◌≤◌}
use native.Mathlib.Nat.{le-mul_of_pos_right}
use Rattle.ground.specs.Place.{row_fits}
use Rattle.rows.specs.PlusRows.{rows_none}
use Rattle.tables.specs.PowerRows.{powering-next, powering-end}
use Rattle.tables.specs.Turns.{PowerTurn, power-turn}
use native.Mathlib.Omega.{arith}
use Rattle.tables.proofs.powers.power_row.Goals as goal

pub loop-b-init : goal.loop-b-init
loop-b-init c = record { upto = omega arith; so_far = rows_none }

pub overflow_mul-b : goal.overflow_mul-b
overflow_mul-b c =
    let place : c.loop-b.b * c.args.l + c.args.l ≤ c.args.l * c.args.l = row_fits c.args.l c.loop-b-test.true in
    omega (arith, place)

pub overflow_add-at : goal.overflow_add-at
overflow_add-at c =
    let place : c.loop-b.b * c.args.l + c.args.l ≤ c.args.l * c.args.l = row_fits c.args.l c.loop-b-test.true in
    omega (arith, place)

pub overflow_mul-b-in-loop-b : goal.overflow_mul-b-in-loop-b
overflow_mul-b-in-loop-b c =
    let turn : PowerTurn c.args.l c.loop-b.b c.args.x = power-turn c.args.l c.loop-b-test.true c.requires.1 in
    omega (arith, turn)

pub overflow_add-b : goal.overflow_add-b
overflow_add-b c =
    let turn : PowerTurn c.args.l c.loop-b.b c.args.x = power-turn c.args.l c.loop-b-test.true c.requires.1 in
    omega (arith, turn)

pub overflow_mul-b-in-loop-b-2 : goal.overflow_mul-b-in-loop-b-2
overflow_mul-b-in-loop-b-2 c =
    let turn : PowerTurn c.args.l c.loop-b.b c.args.x = power-turn c.args.l c.loop-b-test.true c.requires.1 in
    omega (arith, turn)

pub overflow_mul-k : goal.overflow_mul-k
overflow_mul-k c =
    let list-row : c.args.k * c.args.l ≤ (c.args.k * c.args.l + c.args.l) * c.args.l =
    let positive : 0 < c.args.l = omega (arith, c.requires.1) in
    omega (arith, le-mul_of_pos_right (c.args.k * c.args.l + c.args.l) positive) in
    omega (arith, list-row)

pub add_columns-requires : goal.add_columns-requires
add_columns-requires c =
    let place : c.loop-b.b * c.args.l + c.args.l ≤ c.args.l * c.args.l = row_fits c.args.l c.loop-b-test.true in
    let list-row : c.args.k * c.args.l ≤ (c.args.k * c.args.l + c.args.l) * c.args.l =
    let positive : 0 < c.args.l = omega (arith, c.requires.1) in
    omega (arith, le-mul_of_pos_right (c.args.k * c.args.l + c.args.l) positive) in
    let turn : PowerTurn c.args.l c.loop-b.b c.args.x = power-turn c.args.l c.loop-b-test.true c.requires.1 in
    record { n_in_bounds = omega (arith, place, list-row); by_index = λ q h. omega (arith, turn, h) }

pub loop-b-preserved : goal.loop-b-preserved
loop-b-preserved c =
    powering-next c.loop-b.invariant c.loop-b-test.true refl refl refl c.add_columns.ensures

pub returns : goal.returns
returns c = powering-end c.loop-b.invariant c.loop-b-test.false
