-- `tables::sums::load_blocks` meets its contract. The invariant: the first e entries of each block are copied. Rests on Columns and Laid.
use Rattle.std.proofs.Common.{refl, ◌∙◌, ◌*◌, ◌≤◌}
use native.Mathlib.Nat.{le-mul_of_pos_right}
use Rattle.sets.specs.Rooms.{vinegar_room}
use Rattle.streams.specs.Laid.{block_room}
use Rattle.tables.specs.Columns.{loading-none, loading-next, loading-end, EntryTurn, entry-turn}
use native.Mathlib.Omega.{arith}
use Rattle.tables.proofs.sums.load_blocks.Goals as goal

pub lay_blocks-place-requires : goal.lay_blocks-place-requires
lay_blocks-place-requires c =
    (c.requires.l_in_bounds.1.0, (omega (arith, c.requires.l_bound.0), (c.requires.l_bound.1, c.requires.l_in_bounds.1.1)))

pub overflow_mul-n : goal.overflow_mul-n
overflow_mul-n c =
    omega (arith, le-mul_of_pos_right (c.args.count * c.args.l) c.requires.l_in_bounds.1.1, c.requires.l_bound.0)

pub overflow_mul-size : goal.overflow_mul-size
overflow_mul-size c =
    let few : c.args.l * c.args.l ≤ vinegar_room = block_room c.args.l c.requires.l_bound.1 (omega (arith, c.requires.l_bound.0)) in
    omega (arith, few)

pub loop-e-init : goal.loop-e-init
loop-e-init c = (refl, loading-none)

pub nonzero_div-e : goal.nonzero_div-e
nonzero_div-e c =
    let turn : EntryTurn c.args.l c.args.count c.loop-e.e = entry-turn c.args.l c.args.count c.requires.l_in_bounds.1.1 c.loop-e-test.true in
    omega (arith, turn.column)

pub overflow_mul-e : goal.overflow_mul-e
overflow_mul-e c =
    let turn : EntryTurn c.args.l c.args.count c.loop-e.e = entry-turn c.args.l c.args.count c.requires.l_in_bounds.1.1 c.loop-e-test.true in
    omega (arith, turn.row, c.requires.l_bound.0)

pub nonzero_rem-e : goal.nonzero_rem-e
nonzero_rem-e c =
    let turn : EntryTurn c.args.l c.args.count c.loop-e.e = entry-turn c.args.l c.args.count c.requires.l_in_bounds.1.1 c.loop-e-test.true in
    omega (arith, turn.column)

pub overflow_add-e : goal.overflow_add-e
overflow_add-e c =
    let turn : EntryTurn c.args.l c.args.count c.loop-e.e = entry-turn c.args.l c.args.count c.requires.l_in_bounds.1.1 c.loop-e-test.true in
    omega (arith, turn.write 0 c.requires.l_bound.1, c.requires.l_bound.0)

pub overflow_add-place : goal.overflow_add-place
overflow_add-place c =
    let few : c.args.l * c.args.l ≤ vinegar_room = block_room c.args.l c.requires.l_bound.1 (omega (arith, c.requires.l_bound.0)) in
    omega (arith, c.loop-e-test.true, few, c.lay_blocks-place.ensures.early)

pub copy_column-requires : goal.copy_column-requires
copy_column-requires c =
    let turn : EntryTurn c.args.l c.args.count c.loop-e.e = entry-turn c.args.l c.args.count c.requires.l_in_bounds.1.1 c.loop-e-test.true in
    let laid = c.lay_blocks-place in record { by_index = λ k hk. (omega (arith, turn.write k hk, c.requires.l_in_bounds.0, c.loop-e.invariant.0), omega (arith, turn.read k hk, c.requires.l_bound.0, laid.ensures.early, laid.auto.flat)); stride_nonzero = c.requires.l_in_bounds.1.1 }

pub loop-e-preserved : goal.loop-e-preserved
loop-e-preserved c =
    let copied = c.copy_column in (
      copied.auto.dst ∙ c.loop-e.invariant.0,
      loading-next c.loop-e.invariant.1 c.loop-e-test.true c.requires.l_in_bounds.1.1 c.lay_blocks-place.ensures refl
          copied.ensures,
    )

pub returns : goal.returns
returns c = loading-end c.loop-e.invariant.1 c.loop-e-test.false c.requires.l_in_bounds.1.1
