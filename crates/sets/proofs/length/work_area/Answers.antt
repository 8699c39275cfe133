-- `sets::length::work_area` meets its contract: N and each product are small, so nothing wraps.
use Rattle.std.proofs.Common.{ℕ, ◌+◌, ◌*◌, ◌≤◌}
use native.Mathlib.Omega.{arith}
use native.Mathlib.Nat.{mul-le-mul}
use Rattle.sets.specs.Sets.{most_row}
use Rattle.sets.proofs.Bounds.{bounds_of}
use Rattle.sets.proofs.length.work_area.Goals as goal

-- an area of n rows, each with its right-hand side
square : (n : ℕ) → n ≤ most_row → n * (n + 1) ≤ most_row * (most_row + 1)
square n h = let more : n + 1 ≤ most_row + 1 = omega (arith, h) in mul-le-mul h more

pub overflow_add-result : goal.overflow_add-result
overflow_add-result c = omega (arith, c.unknowns-n.ensures, (bounds_of c.args.s).sizes.unknowns)

pub overflow_mul-result : goal.overflow_mul-result
overflow_mul-result c = omega (arith, square c.unknowns-n.result (rw c.unknowns-n.ensures (bounds_of c.args.s).sizes.unknowns))

pub overflow_mul-result-2 : goal.overflow_mul-result-2
overflow_mul-result-2 c = omega (arith, bounds_of c.args.s)

pub overflow_mul-result-3 : goal.overflow_mul-result-3
overflow_mul-result-3 c = omega (arith, bounds_of c.args.s)

pub overflow_mul-result-4 : goal.overflow_mul-result-4
overflow_mul-result-4 c = omega (arith, bounds_of c.args.s)

pub overflow_mul-result-5 : goal.overflow_mul-result-5
overflow_mul-result-5 c = omega (arith, bounds_of c.args.s)

pub overflow_add-result-2 : goal.overflow_add-result-2
overflow_add-result-2 c =
    omega (arith, square c.unknowns-n.result (rw c.unknowns-n.ensures (bounds_of c.args.s).sizes.unknowns), bounds_of c.args.s)
