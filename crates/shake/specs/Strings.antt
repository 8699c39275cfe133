-- Strings of bits, and the bytes that hold them. That what is absorbed is, bit for bit, the message, 1111 and pad10*1, in whole blocks, is in proofs/Messages.
-- Rests on Sponge and on keccak's Bits.
use Rattle.std.specs.Prelude.{◌≡◌, List, ◌++◌, length}
use Rattle.std.proofs.Common.{sym, ap₂, ◌∙◌, length-append, shr-shr, ext_get_or, get_or-append-add}
use Rattle.std.proofs.Math.Path.{ap}
use Prim.Native.Nat.{ℕ, zero, suc, ◌+◌, ◌-◌, ◌*◌, ◌/◌, ◌%◌, ◌^◌, ◌<◌}
use Rattle.std.proofs.Math.Decide.{dec_lt}
use native.Mathlib.Omega.{arith}
use Rattle.std.proofs.Math.ListN.{get_or, get_or-append}
use Rattle.ground.specs.Fill.{tab, length-tab, get_or-tab}
use Rattle.keccak.specs.Bits.{bit}
use Rattle.shake.specs.Sponge.{byte_from, bytes_of}

-- section B.1: the bits of some bytes, the lowest of each first
unfoldable pub bits_of : List ℕ → List ℕ
bits_of bs = tab (8 * length bs) (λ k. bit (get_or bs (k / 8) 0) (k % 8))

length-bits_of : (bs : List ℕ) → length (bits_of bs) ≡ 8 * length bs
unfolding bits_of
length-bits_of bs = length-tab (8 * length bs) (λ k. bit (get_or bs (k / 8) 0) (k % 8))

get_or-bits_of : (bs : List ℕ) (k : ℕ) → k < 8 * length bs → get_or (bits_of bs) k 0 ≡ bit (get_or bs (k / 8) 0) (k % 8)
unfolding bits_of
get_or-bits_of bs k h = get_or-tab (8 * length bs) (λ k. bit (get_or bs (k / 8) 0) (k % 8)) k h

pub bits-append : (a b : List ℕ) → bits_of (a ++ b) ≡ bits_of a ++ bits_of b
bits-append a b = ext_get_or 0 (bits_of (a ++ b)) (bits_of a ++ bits_of b) (long-left ∙ sym long-right) at
  where
    long-left : length (bits_of (a ++ b)) ≡ 8 * (length a + length b)
    long-left = length-bits_of (a ++ b) ∙ ap (λ n. 8 * n) (length-append a b)

    long-right : length (bits_of a ++ bits_of b) ≡ 8 * (length a + length b)
    long-right = length-append (bits_of a) (bits_of b) ∙ omega (arith, length-bits_of a, length-bits_of b)

    at : (k : ℕ) → k < length (bits_of (a ++ b)) → get_or (bits_of (a ++ b)) k 0 ≡ get_or (bits_of a ++ bits_of b) k 0
    at k h =
        let inside : k < 8 * length (a ++ b) = omega (arith, length-bits_of (a ++ b)) in
        get_or-bits_of (a ++ b) k inside
        ∙ elim (dec_lt k (8 * length a)) [
          | yes l ↦
              ap (λ x. bit x (k % 8)) (get_or-append a b 0 (k / 8) (omega arith)) ∙ sym (get_or-bits_of a k l)
              ∙ sym (get_or-append (bits_of a) (bits_of b) 0 k (omega (arith, length-bits_of a)))
          | no l ↦
              let place : k ≡ length (bits_of a) + (k - 8 * length a) = omega (arith, length-bits_of a) in
              let byte : k / 8 ≡ length a + (k - 8 * length a) / 8 = omega arith in
              let same : k % 8 ≡ (k - 8 * length a) % 8 = omega arith in
              ap₂ (λ i d. bit (get_or (a ++ b) i 0) d) byte same ∙ ap (λ x. bit x ((k - 8 * length a) % 8)) (get_or-append-add a b ((k - 8 * length a) / 8) 0)
              ∙ sym (get_or-bits_of b (k - 8 * length a) (omega (arith, length-append a b)))
              ∙ sym (ap (λ i. get_or (bits_of a ++ bits_of b) i 0) place ∙ get_or-append-add (bits_of a) (bits_of b) (k - 8 * length a) 0)
        ]

-- ---- the bits of the bytes of a string are the string

bit-first : (b x : ℕ) → b < 2 → bit (b + 2 * x) 0 ≡ b
unfolding bit
bit-first b x h = omega arith

bit-next : (b x d : ℕ) → b < 2 → bit (b + 2 * x) (suc d) ≡ bit x d
unfolding bit
bit-next b x d h =
    let half : (b + 2 * x) / 2 ^ 1 ≡ x = omega arith in
    let place : 1 + d ≡ suc d = omega arith in
    sym (ap (λ e. (b + 2 * x) / 2 ^ e % 2) place) ∙ ap (λ n. n % 2) (sym (shr-shr (b + 2 * x) 1 d)) ∙ ap (λ n. n / 2 ^ d % 2) half

-- a string of bits
pub record Bits (s : List ℕ) : Type 0 where
  pub bit : (k : ℕ) → get_or s k 0 < 2

module _ (s : List ℕ) (g : Bits s) (p : ℕ) where
  -- from place i on
  rest : ℕ → ℕ → ℕ
  rest i zero = 0
  rest i (suc n) = get_or s (p + i) 0 + 2 * rest (i + 1) n

  rest-bit : (n i d : ℕ) → d < n → bit (rest i n) d ≡ get_or s (p + i + d) 0
  unfolding rest
  rest-bit zero i d h = absurd (omega arith)
  rest-bit (suc n) i zero h = bit-first _ (rest (i + 1) n) (g.bit (p + i)) ∙ ap (λ k. get_or s k 0) (omega arith)
  rest-bit (suc n) i (suc d) h = bit-next _ (rest (i + 1) n) d (g.bit (p + i)) ∙ rest-bit n (i + 1) d (omega arith) ∙ ap (λ k. get_or s k 0) (omega arith)

  byte-rest : byte_from s p ≡ rest 0 8
  unfolding byte_from rest
  byte-rest =
      let start : p + 0 ≡ p = omega arith in
      let last : get_or s (p + 7) 0 + 2 * 0 ≡ get_or s (p + 7) 0 = omega arith in
      rw (start, last)

  byte-bit : (d : ℕ) → d < 8 → bit (byte_from s p) d ≡ get_or s (p + d) 0
  byte-bit d h = ap (λ x. bit x d) byte-rest ∙ rest-bit 8 0 d h ∙ ap (λ k. get_or s k 0) (omega arith)

byte-of : (s : List ℕ) (k : ℕ) → k < length s / 8 → get_or (bytes_of s) k 0 ≡ byte_from s (8 * k)
unfolding bytes_of
byte-of s k h = get_or-tab (length s / 8) (λ k. byte_from s (8 * k)) k h

length-bytes_of : (s : List ℕ) → length (bytes_of s) ≡ length s / 8
unfolding bytes_of
length-bytes_of s = length-tab (length s / 8) (λ k. byte_from s (8 * k))

pub bits-bytes : (s : List ℕ) → Bits s → length s % 8 ≡ 0 → bits_of (bytes_of s) ≡ s
bits-bytes s g whole = ext_get_or 0 (bits_of (bytes_of s)) s long at
  where
    long : length (bits_of (bytes_of s)) ≡ length s
    long = length-bits_of (bytes_of s) ∙ omega (arith, length-bytes_of s)

    at : (k : ℕ) → k < length (bits_of (bytes_of s)) → get_or (bits_of (bytes_of s)) k 0 ≡ get_or s k 0
    at k h =
        let place : 8 * (k / 8) + k % 8 ≡ k = omega arith in
        get_or-bits_of (bytes_of s) k (omega (arith, length-bits_of (bytes_of s))) ∙ ap (λ x. bit x (k % 8)) (byte-of s (k / 8) (omega (arith, long)))
        ∙ byte-bit s g (8 * (k / 8)) (k % 8) (omega arith) ∙ ap (λ i. get_or s i 0) place
