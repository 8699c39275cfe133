-- Index places: row x of a table with rows of n begins at x * n. A product of bounds, handed to `omega` multiplied.
-- Rests on the kit's arithmetic.
use Rattle.std.specs.Prelude.{ℕ, ◌+◌, ◌*◌, ◌<◌, ◌≤◌}
use Rattle.std.proofs.Common.{mul-le-mul_right, arith}

-- row x of m rows of n ends within the table
pub row_fits : {x m : ℕ} (n : ℕ) → x < m → x * n + n ≤ m * n
row_fits {x} {m} n h = omega (arith, mul-le-mul_right n h)
