-- Bits of lanes: what the operations on lanes do to bit z.
-- Rests on Keccak and the kit's laws of bits.
use Rattle.std.specs.Prelude.{◌≡◌, ℕ, zero, suc, ◌+◌, ◌-◌, ◌*◌, ◌/◌, ◌%◌, ◌^◌, ◌<◌, ◌≤◌, T, eqb}
use Rattle.std.proofs.Common.{sym, ap, ap₂, ◌∙◌, mod-eq_of_lt, lt_of_lt_of_le, arith, eqb→eq, pow_mono, pow-add, shr-shr}
use Rattle.std.proofs.Math.Nat.{div-eq_of_lt}
use Rattle.std.proofs.Math.Decide.{dec_lt}
use Rattle.std.specs.Int.Bits.{bit_and, bit_or, or_zero_l, or_zero_r, xor_add_and}
use Rattle.std.proofs.lemmas.Nat.{xor_shr, xor_mod, and_shr, and_mod, or_shr, or_mod, and_mask, shl-shr}
use Rattle.std.proofs.Math.Pow.{mod-mod-pow, field}
use Rattle.ground.specs.Tests.{every, below}
use Rattle.keccak.specs.Keccak.{xor, and, not, rotl}

-- bit z of a lane
unfoldable pub bit : ℕ → ℕ → ℕ
bit a z = a / 2 ^ z % 2

pub bit_xor : (a b z : ℕ) → bit (xor a b) z ≡ xor (bit a z) (bit b z)
unfolding bit xor
bit_xor a b z = ap (λ x. x % 2) (xor_shr a b z) ∙ xor_mod (a / 2 ^ z) (b / 2 ^ z) 1

pub bit-and : (a b z : ℕ) → bit (and a b) z ≡ and (bit a z) (bit b z)
unfolding bit and
bit-and a b z = ap (λ x. x % 2) (and_shr a b z) ∙ and_mod (a / 2 ^ z) (b / 2 ^ z) 1

ones-test : T (every 64 (λ z. eqb (bit (2 ^ 64 - 1) z) 1))
unfolding bit
ones-test = tt

-- to invert is to add ones
pub not-xor : (a : ℕ) → a < 2 ^ 64 → not a ≡ xor a (2 ^ 64 - 1)
unfolding not xor
not-xor a h =
    let same : bit_and a (2 ^ 64 - 1) ≡ a = and_mask a 64 ∙ mod-eq_of_lt h in
    omega (arith, xor_add_and a (2 ^ 64 - 1))

pub bit_not : (a z : ℕ) → a < 2 ^ 64 → z < 64 → bit (not a) z ≡ xor (bit a z) 1
bit_not a z fits h =
    ap (λ x. bit x z) (not-xor a fits) ∙ bit_xor a (2 ^ 64 - 1) z
    ∙ ap (xor (bit a z)) (eqb→eq _ _ (below 64 (λ z. eqb (bit (2 ^ 64 - 1) z) 1) ones-test z h))

bit-mod : (n z : ℕ) → z < 64 → bit (n % 2 ^ 64) z ≡ bit n z
unfolding bit
bit-mod n z h =
    let whole : 64 ≡ 64 - z + z = omega arith in
    let rest : 64 - z ≡ 63 - z + 1 = omega arith in
    ap (λ k. n % 2 ^ k / 2 ^ z % 2) whole ∙ ap (λ x. x % 2) (field n (64 - z) z) ∙ ap (λ k. n / 2 ^ z % 2 ^ k % 2) rest ∙ mod-mod-pow (n / 2 ^ z) (63 - z) 1

bit-shl-low : (a k z : ℕ) → z < k → bit (a * 2 ^ k) z ≡ 0
unfolding bit
bit-shl-low a k z h =
    let split : k ≡ k - z - 1 + 1 + z = omega arith in
    let power : 2 ^ k ≡ 2 ^ (k - z - 1) * 2 * 2 ^ z = ap (λ e. 2 ^ e) split ∙ pow-add 2 (k - z - 1 + 1) z ∙ ap (λ x. x * 2 ^ z) (pow-add 2 (k - z - 1) 1) in
    let regroup : a * 2 ^ k ≡ a * 2 ^ (k - z - 1) * 2 * 2 ^ z = ap (λ x. a * x) power ∙ omega arith in
    ap (λ x. x / 2 ^ z % 2) regroup ∙ ap (λ x. x % 2) (shl-shr (a * 2 ^ (k - z - 1) * 2) z) ∙ omega arith

bit-shl-high : (a k z : ℕ) → k ≤ z → bit (a * 2 ^ k) z ≡ bit a (z - k)
unfolding bit
bit-shl-high a k z h =
    let split : z ≡ k + (z - k) = omega arith in
    ap (λ e. a * 2 ^ k / 2 ^ e % 2) split ∙ ap (λ x. x % 2) (sym (shr-shr (a * 2 ^ k) k (z - k))) ∙ ap (λ x. x / 2 ^ (z - k) % 2) (shl-shr a k)

bit-shr : (a j z : ℕ) → bit (a / 2 ^ j) z ≡ bit a (j + z)
unfolding bit
bit-shr a j z = ap (λ x. x % 2) (shr-shr a j z)

bit_past : (a z : ℕ) → a < 2 ^ 64 → 64 ≤ z → bit a z ≡ 0
unfolding bit
bit_past a z fits h = ap (λ x. x % 2) (div-eq_of_lt (lt_of_lt_of_le fits (pow_mono h)))

bit-or : (a b z : ℕ) → bit (bit_or a b) z ≡ bit_or (bit a z) (bit b z)
unfolding bit
bit-or a b z = ap (λ x. x % 2) (or_shr a b z) ∙ or_mod (a / 2 ^ z) (b / 2 ^ z) 1

-- turned by k: bit z is the old bit z - k, modulo 64
pub bit-rotl : (a k z : ℕ) → a < 2 ^ 64 → k < 64 → z < 64 → bit (rotl a k) z ≡ bit a ((z + (64 - k)) % 64)
unfolding rotl
bit-rotl a zero z fits hk hz = ap (bit a) (omega arith)
bit-rotl a (suc k) z fits hk hz =
    bit-or (a * 2 ^ suc k % 2 ^ 64) (a / 2 ^ (63 - k)) z
    ∙ elim (dec_lt z (suc k)) [
      | yes l ↦
          ap₂ bit_or (bit-mod (a * 2 ^ suc k) z hz ∙ bit-shl-low a (suc k) z l) (bit-shr a (63 - k) z) ∙ or_zero_l _ ∙ ap (bit a) (omega arith)
      | no l ↦
          ap₂ bit_or (bit-mod (a * 2 ^ suc k) z hz ∙ bit-shl-high a (suc k) z (omega arith)) (bit-shr a (63 - k) z ∙ bit_past a (63 - k + z) fits (omega arith))
          ∙ or_zero_r _ ∙ ap (bit a) (omega arith)
    ]
