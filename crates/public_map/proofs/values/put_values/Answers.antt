-- `public_map::values::put_values` meets its contract. The invariant: the first i equations are there. Rests on Values.
use Rattle.std.proofs.Common.{◌≡◌, subst, ◌+◌, ◌*◌, ◌≤◌}
use Rattle.ground.specs.Place.{row_fits}
use Rattle.matrix.specs.Block.{stride}
use Rattle.terms.specs.Terms.{equation_from}
use Rattle.public_map.specs.Values.{Puts, puts_none, puts-next}
use native.Mathlib.Omega.{arith}
use Rattle.sets.specs.Numbers.{numbers}
use Rattle.sets.proofs.Bounds.{bounds_of}
use Rattle.public_map.proofs.values.put_values.Goals as goal

pub loop-i-init : goal.loop-i-init
loop-i-init c = (omega arith, puts_none)

pub equation_block-equation-requires : goal.equation_block-equation-requires
equation_block-equation-requires c = record { i_lt_o = c.loop-i-test.true; abq_lent = c.requires.abq_lent; l_in_bounds = c.requires.l_in_bounds.1 }

pub overflow_mul-l : goal.overflow_mul-l
overflow_mul-l c = omega (arith, (bounds_of c.args.set).products.ll)

pub overflow_mul-i : goal.overflow_mul-i
overflow_mul-i c =
    let within : (let set = numbers c.args.set in c.loop-i.i * (set.l * set.l) + set.l * set.l ≤ set.o * (set.l * set.l)) = row_fits _ c.loop-i-test.true in
    omega (arith, within, (bounds_of c.args.set).limits.row)

pub put_block-requires : goal.put_block-requires
put_block-requires c =
    let within : (let set = numbers c.args.set in c.loop-i.i * (set.l * set.l) + set.l * set.l ≤ set.o * (set.l * set.l)) = row_fits _ c.loop-i-test.true in
    let limits = (bounds_of c.args.set).limits in (
      omega (arith, limits.l-least),
      (omega (arith, limits.l-most), omega (arith, within, c.requires.l_in_bounds.0, c.loop-i.invariant.1.long)),
    )

pub loop-i-smaller : goal.loop-i-smaller
loop-i-smaller c = omega (arith, c.loop-i-test.true)

pub loop-i-preserved : goal.loop-i-preserved
loop-i-preserved c =
    let small : c.args.set.l ≤ stride = omega (arith, (bounds_of c.args.set).limits.l-most) in
    (omega (arith, c.loop-i-test.true), puts-next small c.loop-i.invariant.1 c.equation_block-equation.ensures c.put_block.ensures)

pub returns : goal.returns
returns c =
    let a = c.args in
    let all : c.loop-i.i ≡ a.set.o = omega (arith, c.loop-i.invariant.0, c.loop-i-test.false) in
    subst (λ n. Puts a.set.l n (equation_from (numbers a.set) a.abq.now a.sums.now) a.values.now c.loop-i.values) all c.loop-i.invariant.1
