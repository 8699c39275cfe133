-- `keys::elements::put_p22` meets its contract. The invariant: the first q rows of l elements are written. Rests on Elements and Places.
use Rattle.std.proofs.Common.{refl, ℕ, ◌+◌, ◌*◌, ◌<◌}
use Rattle.sets.specs.declared.within.AllowedSet.{AllowedSet}
use Rattle.keys.specs.KeyPlaces.{PutTurn, put-turn, key-within}
use Rattle.keys.specs.Elements.{row_place, putting-none, putting-next, putting-end}
use native.Mathlib.Omega.{arith}
use Rattle.sets.specs.Numbers.{numbers}
use Rattle.sets.proofs.Bounds.{bounds_of}
use Rattle.keys.proofs.elements.put_p22.Goals as goal

-- what a turn of the loop says of its place
turn : (set : AllowedSet) {i q : ℕ} → i < set.o → q < set.o * set.o * set.l → PutTurn (numbers set) i q
turn set = put-turn (bounds_of set)

pub overflow_mul-count : goal.overflow_mul-count
overflow_mul-count c = omega (arith, (bounds_of c.args.set).products.oo)

pub overflow_mul-count-2 : goal.overflow_mul-count-2
overflow_mul-count-2 c = omega (arith, (bounds_of c.args.set).products.ool)

pub loop-q-init : goal.loop-q-init
loop-q-init c = putting-none

pub nonzero_rem-r : goal.nonzero_rem-r
nonzero_rem-r c = omega (arith, turn c.args.set c.requires.i_lt_o.0 c.loop-q-test.true)

pub nonzero_div-b : goal.nonzero_div-b
nonzero_div-b c = omega (arith, turn c.args.set c.requires.i_lt_o.0 c.loop-q-test.true)

pub nonzero_rem-b : goal.nonzero_rem-b
nonzero_rem-b c = omega (arith, turn c.args.set c.requires.i_lt_o.0 c.loop-q-test.true)

pub nonzero_div-j : goal.nonzero_div-j
nonzero_div-j c = omega (arith, turn c.args.set c.requires.i_lt_o.0 c.loop-q-test.true)

pub nonzero_div-j-in-loop-q : goal.nonzero_div-j-in-loop-q
nonzero_div-j-in-loop-q c = omega (arith, turn c.args.set c.requires.i_lt_o.0 c.loop-q-test.true)

pub overflow_mul-i : goal.overflow_mul-i
overflow_mul-i c = omega (arith, (turn c.args.set c.requires.i_lt_o.0 c.loop-q-test.true).number, (bounds_of c.args.set).products.oool)

pub overflow_add-i : goal.overflow_add-i
overflow_add-i c = omega (arith, (turn c.args.set c.requires.i_lt_o.0 c.loop-q-test.true).number, (bounds_of c.args.set).products.oool)

pub overflow_mul-i-in-loop-q : goal.overflow_mul-i-in-loop-q
overflow_mul-i-in-loop-q c = omega (arith, (turn c.args.set c.requires.i_lt_o.0 c.loop-q-test.true).from, (bounds_of c.args.set).products.oooll)

pub overflow_mul-j : goal.overflow_mul-j
overflow_mul-j c = omega (arith, (turn c.args.set c.requires.i_lt_o.0 c.loop-q-test.true).row, (bounds_of c.args.set).products.ol)

pub overflow_add-j : goal.overflow_add-j
overflow_add-j c = omega (arith, (turn c.args.set c.requires.i_lt_o.0 c.loop-q-test.true).row, (bounds_of c.args.set).products.ol)

pub overflow_mul-o : goal.overflow_mul-o
overflow_mul-o c = omega (arith, (bounds_of c.args.set).products.ol)

pub overflow_mul-j-in-loop-q : goal.overflow_mul-j-in-loop-q
overflow_mul-j-in-loop-q c = omega (arith, (turn c.args.set c.requires.i_lt_o.0 c.loop-q-test.true).place, (bounds_of c.args.set).products.ooll)

pub overflow_mul-b : goal.overflow_mul-b
overflow_mul-b c = omega (arith, (turn c.args.set c.requires.i_lt_o.0 c.loop-q-test.true).block, (bounds_of c.args.set).products.ol)

pub overflow_add-j-in-loop-q : goal.overflow_add-j-in-loop-q
overflow_add-j-in-loop-q c =
    omega (arith, (turn c.args.set c.requires.i_lt_o.0 c.loop-q-test.true).place, (turn c.args.set c.requires.i_lt_o.0 c.loop-q-test.true).block, (bounds_of c.args.set).products.ooll)

pub put_row-requires : goal.put_row-requires
put_row-requires c =
    let loop = c.loop-q in record { n_bound = omega (arith, turn c.args.set c.requires.i_lt_o.0 c.loop-q-test.true, key-within (bounds_of c.args.set) c.requires.i_lt_o.1, c.requires.i_lt_o, loop.invariant.so_far.long); by_index = λ x h. c.requires.by_index (row_place c.args.set.o c.args.set.l loop.q + x) }

pub loop-q-preserved : goal.loop-q-preserved
loop-q-preserved c =
    putting-next c.loop-q.invariant c.loop-q-test.true refl refl c.put_row.ensures

pub returns : goal.returns
returns c = putting-end c.loop-q.invariant c.loop-q-test.false
