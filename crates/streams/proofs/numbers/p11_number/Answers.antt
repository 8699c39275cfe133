-- `streams::numbers::p11_number` meets its contract: the block row lies within its stream, which has few blocks.
use Rattle.streams.specs.Numbers.{starts, p11-fits, p11-row}
use native.Mathlib.Omega.{arith}
use Rattle.sets.specs.Numbers.{numbers}
use Rattle.sets.proofs.Bounds.{bounds_of}
use Rattle.streams.proofs.numbers.p11_number.Goals as goal

pub overflow_mul-result : goal.overflow_mul-result
overflow_mul-result c = omega (arith, (p11-row (bounds_of c.args.set) c.requires.0 c.requires.1).matrix)

pub overflow_add-result : goal.overflow_add-result
overflow_add-result c = omega (arith, (p11-row (bounds_of c.args.set) c.requires.0 c.requires.1).row)

pub overflow_mul-result-2 : goal.overflow_mul-result-2
overflow_mul-result-2 c = omega (arith, (p11-row (bounds_of c.args.set) c.requires.0 c.requires.1).block)

pub returns : goal.returns
returns c =
    starts (omega arith) (p11-fits (numbers c.args.set) c.requires.0 c.requires.1)
