-- `packing::joined` meets its contract: the shifted half loses nothing, and the two halves share no bit.
-- Rests on `or_shifted_r` of lib.Bits.
use Rattle.std.proofs.Common.{◌≡◌, ap, ◌∙◌, ◌*◌, ◌%◌}
use native.Mathlib.Omega.{arith}
use lib.Bits.{bit_or, or_shifted_r}
use Rattle.packing.proofs.joined.Goals as goal

pub returns : goal.returns
returns c =
    let a = c.args in
    let kept : a.high * 16 % 256 ≡ a.high * 16 = omega arith in
    ap (bit_or a.low) kept ∙ or_shifted_r a.high 4 a.low c.requires.0 ∙ omega arith
