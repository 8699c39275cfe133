-- `matrix::last_coefficient` meets its contract: each branch is one case of the picks.
use native.Mathlib.Omega.{arith}
use Rattle.std.proofs.Common.{eq-eqb, ne_eqb}
use Rattle.matrix.proofs.ring.last_coefficient.Goals as goal

pub returns-then-own-ne0 : goal.returns-then-own-ne0
returns-then-own-ne0 c = rw (ne_eqb _ _ c.if-own-ne0.true)

pub overflow_sub-result : goal.overflow_sub-result
overflow_sub-result c = omega (arith, c.requires)

pub returns-then-a0-eq0 : goal.returns-then-a0-eq0
returns-then-a0-eq0 c = rw (eq-eqb _ _ c.if-own-ne0.false, eq-eqb _ _ c.if-a0-eq0.true)

pub returns-else-a0-eq0 : goal.returns-else-a0-eq0
returns-else-a0-eq0 c = rw (eq-eqb _ _ c.if-own-ne0.false, ne_eqb _ _ c.if-a0-eq0.false)
