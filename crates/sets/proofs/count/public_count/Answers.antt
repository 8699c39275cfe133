-- `sets::count::public_count` meets its contract: the bounds have every product, so nothing wraps, and the definition written out.
use Rattle.std.proofs.Common.{sym, ◌+◌, ◌*◌, ◌≤◌}
use native.Mathlib.Omega.{arith}
use native.Mathlib.Nat.{mul-le-mul, mul-le-mul_left}
use Rattle.sets.specs.declared.Set.{Set}
use Rattle.sets.specs.Sets.{most_v, most_o}
use Rattle.sets.specs.Bounds.{Bounds}
use Rattle.sets.proofs.count.public_count.Goals as goal

-- the blocks of P12 and P21, and all blocks of one equation
p12-and-p21 : {s : Set} → Bounds s → 2 * s.v * s.o ≤ 2 * most_v * most_o
p12-and-p21 b = mul-le-mul (mul-le-mul_left 2 b.limits.v-most) b.limits.o-most

per-equation : {s : Set} → Bounds s → s.v * s.v + 2 * s.v * s.o ≤ most_v * most_v + 2 * most_v * most_o
per-equation b = omega (arith, b.products.vv, p12-and-p21 b)

pub overflow_mul-result : goal.overflow_mul-result
overflow_mul-result c = omega (arith, c.requires.products.vv)

pub overflow_mul-result-2 : goal.overflow_mul-result-2
overflow_mul-result-2 c = omega (arith, c.requires.limits.v-most)

pub overflow_mul-result-3 : goal.overflow_mul-result-3
overflow_mul-result-3 c = omega (arith, p12-and-p21 c.requires)

pub overflow_add-result : goal.overflow_add-result
overflow_add-result c = omega (arith, per-equation c.requires)

pub overflow_mul-result-4 : goal.overflow_mul-result-4
overflow_mul-result-4 c =
    let b = c.requires in
    omega (arith, mul-le-mul b.limits.o-most (per-equation b))

pub overflow_mul-result-5 : goal.overflow_mul-result-5
overflow_mul-result-5 c = omega (arith, c.requires.products.ll)

pub overflow_mul-result-6 : goal.overflow_mul-result-6
overflow_mul-result-6 c = let b = c.requires in omega (arith, b.counts.public, b.sizes.public)

pub returns : goal.returns
returns c = sym c.requires.counts.public
