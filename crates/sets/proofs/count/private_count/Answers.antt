-- `sets::count::private_count` meets its contract: the bounds have every product, so nothing wraps, and the definition written out.
use native.Mathlib.Omega.{arith}
use Rattle.sets.proofs.count.private_count.Goals as goal

pub overflow_mul-result : goal.overflow_mul-result
overflow_mul-result c = omega arith

pub overflow_mul-result-2 : goal.overflow_mul-result-2
overflow_mul-result-2 c = omega arith

pub returns : goal.returns
returns c = omega arith
