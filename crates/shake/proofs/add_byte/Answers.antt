-- `shake::add_byte` meets its contract: the byte, shifted to its place in the lane, does not reach beyond the lane.
use Rattle.std.proofs.Common.{◌≡◌, ◌*◌, ◌%◌, ◌^◌, rules}
use lib.Pow.{shl_exact}
use Rattle.shake.specs.Sponge.{add_byte}
use native.Mathlib.Omega.{arith}
use Rattle.shake.proofs.add_byte.Goals as goal

pub returns : goal.returns
unfolding add_byte
returns c =
    let a = c.args in
    let shifted : a.b * 2 ^ (8 * (a.p % 8)) % 2 ^ 64 ≡ a.b * 2 ^ (8 * (a.p % 8)) = shl_exact {a = a.b} 8 (8 * (a.p % 8)) 64 (search rules) (omega arith) in
    rw (c.from.ensures, shifted)
