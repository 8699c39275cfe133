-- `streams::numbers::p21_number` meets its contract: the block row lies within its stream, which has few blocks.
use Rattle.streams.specs.Numbers.{starts, p21-fits, p21-row}
use native.Mathlib.Omega.{arith}
use Rattle.sets.specs.Numbers.{numbers}
use Rattle.sets.proofs.Bounds.{bounds_of}
use Rattle.streams.proofs.numbers.p21_number.Goals as goal

pub overflow_mul-result : goal.overflow_mul-result
overflow_mul-result c = omega (arith, (bounds_of c.args.set).products.vv)

pub overflow_mul-result-2 : goal.overflow_mul-result-2
overflow_mul-result-2 c = omega (arith, (bounds_of c.args.set).products.vvo)

pub overflow_mul-result-3 : goal.overflow_mul-result-3
overflow_mul-result-3 c = omega (arith, (bounds_of c.args.set).products.vo)

pub overflow_mul-result-4 : goal.overflow_mul-result-4
overflow_mul-result-4 c = omega (arith, (bounds_of c.args.set).products.voo)

pub overflow_add-result : goal.overflow_add-result
overflow_add-result c =
    omega (arith, (bounds_of c.args.set).products.vvo, (bounds_of c.args.set).products.voo)

pub overflow_mul-result-5 : goal.overflow_mul-result-5
overflow_mul-result-5 c = omega (arith, (p21-row (bounds_of c.args.set) c.requires.0 c.requires.1).matrix)

pub overflow_add-result-2 : goal.overflow_add-result-2
overflow_add-result-2 c = omega (arith, (p21-row (bounds_of c.args.set) c.requires.0 c.requires.1).row)

pub overflow_mul-result-6 : goal.overflow_mul-result-6
overflow_mul-result-6 c = omega (arith, (p21-row (bounds_of c.args.set) c.requires.0 c.requires.1).block)

pub overflow_add-result-3 : goal.overflow_add-result-3
overflow_add-result-3 c = omega (arith, (p21-row (bounds_of c.args.set) c.requires.0 c.requires.1).block, (bounds_of c.args.set).products.vvo, (bounds_of c.args.set).products.voo)

pub returns : goal.returns
returns c =
    starts (omega arith) (p21-fits (numbers c.args.set) c.requires.0 c.requires.1)
