-- `sets::count::terms` meets its contract: the bounds have every product, so nothing wraps, and the definition written out.
use native.Mathlib.Omega.{arith}
use Rattle.sets.proofs.Bounds.{bounds_of}
use Rattle.sets.proofs.count.terms.Goals as goal

pub overflow_mul-result : goal.overflow_mul-result
overflow_mul-result c = omega (arith, bounds_of c.args.s)

pub overflow_add-result : goal.overflow_add-result
overflow_add-result c = omega (arith, bounds_of c.args.s)

pub returns : goal.returns
returns c = omega (arith, bounds_of c.args.s)
