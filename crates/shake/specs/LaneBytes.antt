-- The eight bytes of a lane, the lowest first: what `to_le_bytes` gives.
-- Rests on Sponge and ground's lists.
use Rattle.std.specs.Prelude.{◌≡◌, ℕ, ◌/◌, ◌<◌, get_or}
use Rattle.std.proofs.Common.{ap, ◌∙◌, arith}
use Rattle.std.specs.Int.{w64, to_le_bytes}
use Rattle.ground.specs.Fill.{tab, get_or-tab}
use Rattle.shake.specs.Sponge.{lane_byte}

pub lane-bytes : (w : ℕ) → to_le_bytes w64 w ≡ tab 8 (lane_byte w)
unfolding tab lane_byte
lane-bytes w = let one : w / 1 ≡ w = omega arith in rw one

pub lane-bytes-at : (w d : ℕ) → d < 8 → get_or (to_le_bytes w64 w) d 0 ≡ lane_byte w d
lane-bytes-at w d h = ap (λ b. get_or b d 0) (lane-bytes w) ∙ get_or-tab 8 (lane_byte w) d h
