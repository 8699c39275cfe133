-- Bytes of a state. Its string of bits is section 3.1.2's; to add a block is step 6's sum of the state and the block with zeros behind it; and lanes stay below 2 ^ 64.
-- Rests on Sponge, on keccak's Bits and Words, and on the kit's laws of bits.
use Rattle.std.specs.Prelude.{◌≡◌, refl, List, [], ◌∷◌, ◌++◌, ℕ, zero, suc, ◌+◌, ◌-◌, ◌*◌, ◌/◌, ◌%◌, ◌^◌, ◌<◌, ◌≤◌, length, get_or, set, take, drop, replicate}
use Rattle.std.proofs.Common.{sym, ap, ap₂, ◌∙◌, mod-eq_of_lt, lt_of_lt_of_le, arith, lit<, pow-add, pow_mono, shl_lt, shr-shr, length-set, length-take, get_or-set_same, get_or-set_other, get_or-drop, get_or-take, get_or-append-add}
use Rattle.std.proofs.Math.Nat.{div-eq_of_lt}
use Rattle.std.proofs.Math.Decide.{ℕ_discrete, dec_lt}
use Rattle.std.specs.Int.Bits.{bit_xor, xor_zero_r}
use Rattle.std.proofs.lemmas.Nat.{xor_shr, xor_mod, xor_lt, shl-shr}
use Rattle.std.proofs.Math.Pow.{field, mod-mod-pow}
use Rattle.std.proofs.lemmas.List.{length-replicate}
use Rattle.std.proofs.Math.ListN.{get_or-append, get_or-eq_default}
use Rattle.keccak.specs.Bits.{bit}
use Rattle.keccak.specs.Words.{Words, words-set, words-keccak_f, length-keccak_f}
use Rattle.shake.specs.Sponge.{lane_byte, byte_at, add_byte, add_bytes, absorbed, sponge, permuted}
use Rattle.shake.specs.Padding.{padding, padding-one, padding-more}

-- every number of the list is a byte
pub record Bytes (bs : List ℕ) : Type 0 where
  pub byte : (k : ℕ) → get_or bs k 0 < 256

-- ---- section 3.1.2: bit 64 (5y + x) + z of a state's string is A[x, y, z]; bit d of byte p is that string's bit 8p + d

pub state-bit : (s : List ℕ) (p d : ℕ) → d < 8 → bit (byte_at s p) d ≡ bit (get_or s ((8 * p + d) / 64) 0) ((8 * p + d) % 64)
unfolding bit byte_at lane_byte
state-bit s p d h =
    let lane : (8 * p + d) / 64 ≡ p / 8 = omega arith in
    let place : (8 * p + d) % 64 ≡ 8 * (p % 8) + d = omega arith in
    let w : ℕ = get_or s (p / 8) 0 in
    let n : ℕ = w / 2 ^ (8 * (p % 8)) in
    let whole : 8 ≡ 8 - d + d = omega arith in
    let rest : 8 - d ≡ 7 - d + 1 = omega arith in
    ap (λ k. n % 2 ^ k / 2 ^ d % 2) whole ∙ ap (λ x. x % 2) (field n (8 - d) d) ∙ ap (λ k. n / 2 ^ d % 2 ^ k % 2) rest ∙ mod-mod-pow (n / 2 ^ d) (7 - d) 1
    ∙ ap (λ x. x % 2) (shr-shr w (8 * (p % 8)) d) ∙ ap₂ (λ k z. get_or s k 0 / 2 ^ z % 2) (sym lane) (sym place)

-- ---- one byte

lane_xor : (a b d : ℕ) → lane_byte (bit_xor a b) d ≡ bit_xor (lane_byte a d) (lane_byte b d)
unfolding lane_byte
lane_xor a b d = ap (λ x. x % 256) (xor_shr a b (8 * d)) ∙ xor_mod (a / 2 ^ (8 * d)) (b / 2 ^ (8 * d)) 8

shifted-same : (b d : ℕ) → b < 256 → lane_byte (b * 2 ^ (8 * d)) d ≡ b
unfolding lane_byte
shifted-same b d h = ap (λ x. x % 256) (shl-shr b (8 * d)) ∙ mod-eq_of_lt h

shifted-above : (b i d : ℕ) → b < 256 → i < d → lane_byte (b * 2 ^ (8 * i)) d ≡ 0
unfolding lane_byte
shifted-above b i d h l =
    let small : b * 2 ^ (8 * i) < 2 ^ (8 + 8 * i) = shl_lt 8 (8 * i) h in
    ap (λ x. x % 256) (div-eq_of_lt (lt_of_lt_of_le small (pow_mono (omega arith))))

shifted-below : (b i d : ℕ) → d < i → lane_byte (b * 2 ^ (8 * i)) d ≡ 0
unfolding lane_byte
shifted-below b i d l =
    let split : 8 * i ≡ 8 * (i - d - 1) + 8 + 8 * d = omega arith in
    let power : 2 ^ (8 * i) ≡ 2 ^ (8 * (i - d - 1)) * 256 * 2 ^ (8 * d) =
    ap (λ e. 2 ^ e) split ∙ pow-add 2 (8 * (i - d - 1) + 8) (8 * d) ∙ ap (λ x. x * 2 ^ (8 * d)) (pow-add 2 (8 * (i - d - 1)) 8) in
    let regroup : b * 2 ^ (8 * i) ≡ b * 2 ^ (8 * (i - d - 1)) * 256 * 2 ^ (8 * d) = ap (λ x. b * x) power ∙ omega arith in
    ap (λ x. x / 2 ^ (8 * d) % 256) regroup ∙ ap (λ x. x % 256) (shl-shr (b * 2 ^ (8 * (i - d - 1)) * 256) (8 * d)) ∙ omega arith

shifted-other : (b i d : ℕ) → b < 256 → (d ≡ i → ⊥) → lane_byte (b * 2 ^ (8 * i)) d ≡ 0
shifted-other b i d h e = elim (dec_lt d i) [ yes l ↦ shifted-below b i d l | no l ↦ shifted-above b i d h (omega arith) ]

pub byte-added : (s : List ℕ) (p b : ℕ) → p / 8 < length s → b < 256 → byte_at (add_byte s p b) p ≡ bit_xor (byte_at s p) b
unfolding byte_at add_byte
byte-added s p b inside h =
    ap (λ w. lane_byte w (p % 8)) (get_or-set_same s (p / 8) _ 0 inside) ∙ lane_xor (get_or s (p / 8) 0) (b * 2 ^ (8 * (p % 8))) (p % 8)
    ∙ ap (bit_xor (lane_byte (get_or s (p / 8) 0) (p % 8))) (shifted-same b (p % 8) h)

pub byte-kept : (s : List ℕ) (p b q : ℕ) → p / 8 < length s → b < 256 → (q ≡ p → ⊥) → byte_at (add_byte s p b) q ≡ byte_at s q
unfolding byte_at add_byte
byte-kept s p b q inside h e =
    elim (ℕ_discrete (q / 8) (p / 8)) [
      | yes f ↦
          let other : q % 8 ≡ p % 8 → ⊥ = λ g. e (omega arith) in
          ap (λ k. lane_byte (get_or (set s (p / 8) (bit_xor (get_or s (p / 8) 0) (b * 2 ^ (8 * (p % 8))))) k 0) (q % 8)) f
          ∙ ap (λ w. lane_byte w (q % 8)) (get_or-set_same s (p / 8) _ 0 inside) ∙ lane_xor (get_or s (p / 8) 0) (b * 2 ^ (8 * (p % 8))) (q % 8)
          ∙ ap (bit_xor (lane_byte (get_or s (p / 8) 0) (q % 8))) (shifted-other b (p % 8) (q % 8) h other) ∙ xor_zero_r (lane_byte (get_or s (p / 8) 0) (q % 8))
          ∙ ap (λ k. lane_byte (get_or s k 0) (q % 8)) (sym f)
      | no f ↦ ap (λ w. lane_byte w (q % 8)) (get_or-set_other s (p / 8) (q / 8) _ 0 f)
    ]

-- ---- a block

length-added : (s : List ℕ) (p b : ℕ) → length (add_byte s p b) ≡ length s
unfolding add_byte
length-added s p b = length-set s (p / 8) _

bytes_rest : {b : ℕ} {bs : List ℕ} → Bytes (b ∷ bs) → Bytes bs
bytes_rest g = record { byte = λ k. g.byte (suc k) }

-- bytes before the first place stay
added-before : (bs s : List ℕ) (p q : ℕ) → length s ≡ 25 → p + length bs ≤ 200 → Bytes bs → q < p → byte_at (add_bytes s p bs) q ≡ byte_at s q
unfolding add_bytes
added-before [] s p q long fits g h = refl
added-before (b ∷ bs) s p q long fits g h =
    added-before bs (add_byte s p b) (p + 1) q (length-added s p b ∙ long) (omega arith) (bytes_rest g) (omega arith)
    ∙ byte-kept s p b q (omega arith) (g.byte 0) (λ e. omega arith)

-- each byte from there on gains its own, and nothing behind the block
added-from : (bs s : List ℕ) (p q : ℕ) → length s ≡ 25 → p + length bs ≤ 200 → Bytes bs → p ≤ q
    → byte_at (add_bytes s p bs) q ≡ bit_xor (byte_at s q) (get_or bs (q - p) 0)
unfolding add_bytes
added-from [] s p q long fits g h = sym (xor_zero_r (byte_at s q))
added-from (b ∷ bs) s p q long fits g h =
    elim (ℕ_discrete q p) [
      | yes e ↦
          let none : q - p ≡ 0 = omega arith in
          added-before bs (add_byte s p b) (p + 1) q (length-added s p b ∙ long) (omega arith) (bytes_rest g) (omega arith)
          ∙ ap (byte_at (add_byte s p b)) e ∙ byte-added s p b (omega arith) (g.byte 0)
          ∙ ap₂ (λ i k. bit_xor (byte_at s i) (get_or (b ∷ bs) k 0)) (sym e) (sym none)
      | no e ↦
          let next : suc (q - (p + 1)) ≡ q - p = omega arith in
          added-from bs (add_byte s p b) (p + 1) q (length-added s p b ∙ long) (omega arith) (bytes_rest g) (omega arith)
          ∙ ap (λ x. bit_xor x (get_or bs (q - (p + 1)) 0)) (byte-kept s p b q (omega arith) (g.byte 0) e)
          ∙ ap (λ k. bit_xor (byte_at s q) (get_or (b ∷ bs) k 0)) next
    ]

-- step 6: the sum of the state and the block, zeros behind it
pub block-added : (s bs : List ℕ) (q : ℕ) → length s ≡ 25 → length bs ≤ 200 → Bytes bs → byte_at (add_bytes s 0 bs) q ≡ bit_xor (byte_at s q) (get_or bs q 0)
block-added s bs q long fits g = added-from bs s 0 q long (omega arith) g (omega arith) ∙ ap (λ k. bit_xor (byte_at s q) (get_or bs k 0)) (omega arith)

-- ---- lanes stay words

words-added : {s : List ℕ} → Words s → (p b : ℕ) → b < 256 → Words (add_byte s p b)
unfolding add_byte
words-added {s} w p b h =
    let small : b * 2 ^ (8 * (p % 8)) < 2 ^ (8 + 8 * (p % 8)) = shl_lt 8 (8 * (p % 8)) h in
    words-set w (p / 8) _ (xor_lt 64 _ _ (w.word (p / 8)) (lt_of_lt_of_le small (pow_mono {j = 64} (omega arith))))

words-block : (bs : List ℕ) {s : List ℕ} → Words s → (p : ℕ) → Bytes bs → Words (add_bytes s p bs)
unfolding add_bytes
words-block [] w p g = w
words-block (b ∷ bs) w p g = words-block bs (words-added w p b (g.byte 0)) (p + 1) (bytes_rest g)

bytes_take : {bs : List ℕ} → Bytes bs → (n : ℕ) → Bytes (take n bs)
bytes_take {bs} g n =
    record {
      byte = λ k.
          elim (dec_lt k n) [
            | yes l ↦ let is : get_or (take n bs) k 0 ≡ get_or bs k 0 = get_or-take n bs k 0 l in rw is (g.byte k)
            | no l ↦ let none : get_or (take n bs) k 0 ≡ 0 = get_or-eq_default (take n bs) 0 (omega (arith, length-take n bs)) in rw none (lit< tt)
          ];
    }

bytes_drop : {bs : List ℕ} → Bytes bs → (n : ℕ) → Bytes (drop n bs)
bytes_drop {bs} g n = record { byte = λ k. rw (get_or-drop n bs k 0) (g.byte (n + k)) }

pub bytes-append : {a b : List ℕ} → Bytes a → Bytes b → Bytes (a ++ b)
bytes-append {a} {b} g h =
    record {
      byte = λ k.
          elim (dec_lt k (length a)) [
            | yes l ↦ rw (get_or-append a b 0 k l) (g.byte k)
            | no l ↦
                let place : k ≡ length a + (k - length a) = omega arith in
                let is : get_or (a ++ b) k 0 ≡ get_or b (k - length a) 0 = ap (λ i. get_or (a ++ b) i 0) place ∙ get_or-append-add a b (k - length a) 0 in
                rw is (h.byte (k - length a))
          ];
    }

bytes-none : Bytes []
bytes-none = record { byte = λ k. lit< tt }

bytes-more : {b : ℕ} {bs : List ℕ} → b < 256 → Bytes bs → Bytes (b ∷ bs)
bytes-more {b} {bs} h g = record { byte = at }
  where
    at : (k : ℕ) → get_or (b ∷ bs) k 0 < 256
    at zero = h
    at (suc k) = g.byte k

bytes-zeros : (n : ℕ) → Bytes (replicate n 0)
bytes-zeros zero = bytes-none
bytes-zeros (suc n) = bytes-more (lit< tt) (bytes-zeros n)

pub bytes-padding : (n : ℕ) → Bytes (padding n)
bytes-padding n =
    elim (ℕ_discrete n 1) [
      | yes e ↦ rw (padding-one n e) (bytes-more (lit< tt) bytes-none)
      | no e ↦ rw (padding-more n e) (bytes-more (lit< tt) (bytes-append (bytes-zeros (n - 2)) (bytes-more (lit< tt) bytes-none)))
    ]

pub words-zeros : (n : ℕ) → Words (replicate n 0)
words-zeros n = record { word = at n }
  where
    at : (n k : ℕ) → get_or (replicate n 0) k 0 < 2 ^ 64
    at zero k = lit< tt
    at (suc n) zero = lit< tt
    at (suc n) (suc k) = at n k

pub words-absorbed : (rate n : ℕ) {s p : List ℕ} → Words s → Bytes p → Words (absorbed rate s n p)
unfolding absorbed
words-absorbed rate zero w g = w
words-absorbed rate (suc n) {p = p} w g = words-absorbed rate n (words-keccak_f (words-block (take rate p) w 0 (bytes_take g rate))) (bytes_drop g rate)

-- every state that is squeezed; the state that has absorbed a message of bytes is in proofs/Messages
pub words-permuted : (n : ℕ) {s : List ℕ} → Words s → Words (permuted n s)
unfolding permuted
words-permuted zero w = w
words-permuted (suc n) w = words-permuted n (words-keccak_f w)

-- and there are 25 lanes at every step
length-absorbed : (rate : ℕ) (n : ℕ) (s p : List ℕ) → length s ≡ 25 → length (absorbed rate s n p) ≡ 25
unfolding absorbed
length-absorbed rate zero s p long = long
length-absorbed rate (suc n) s p long = length-absorbed rate n _ _ (length-keccak_f (add_bytes s 0 (take rate p)))

pub length-sponge : (rate : ℕ) (m : List ℕ) → length (sponge rate m) ≡ 25
unfolding sponge
length-sponge rate m = length-absorbed rate _ (replicate 25 0) _ (length-replicate {A = ℕ} 25 0)
