-- The padding's bytes, derived from the bits that follow a message: the suffix, then pad10*1. They fill up the message to whole blocks.
-- Rests on Sponge, Padding and the kit's lists.
use Rattle.std.specs.Prelude.{◌≡◌, refl, List, [], ◌∷◌, ◌++◌, ℕ, zero, suc, ◌+◌, ◌-◌, ◌*◌, ◌/◌, ◌%◌, ◌<◌, ◌≤◌, get_or, replicate}
use Rattle.std.proofs.Math.Path.{sym, ap}
use Rattle.std.proofs.Common.{◌∙◌, mod-lt, mod-eq_of_lt, div-add-mod', arith, lit<, length-append}
use Rattle.std.proofs.Math.Decide.{ℕ_discrete, dec_lt}
use Rattle.std.proofs.Math.Arith.{digits_mod}
use Rattle.std.proofs.Math.ListN.{length, get_or-append, get_or-eq_default}
use Rattle.std.proofs.lemmas.List.{length-replicate, get_or-replicate, get_or_at}
use Rattle.ground.specs.Fill.{tab, tab-ext}
use Rattle.shake.specs.Sponge.{byte_from, bytes_of, pad101, suffix, ending}
use Rattle.shake.specs.Padding.{padding, padding-one, padding-more}

-- ---- the bits: five ones, j zeros, one

abbrev bits : ℕ → List ℕ
bits j = 1 ∷ 1 ∷ 1 ∷ 1 ∷ 1 ∷ (replicate j 0 ++ (1 ∷ []))

length-bits : (j : ℕ) → length (bits j) ≡ j + 6
length-bits j =
    let zeros : length (replicate {A = ℕ} j 0) ≡ j = length-replicate {A = ℕ} j 0 in
    let rest : length (replicate {A = ℕ} j 0 ++ (1 ∷ [])) ≡ j + 1 = length-append (replicate {A = ℕ} j 0) (1 ∷ []) ∙ ap (λ n. n + 1) zeros in
    omega arith

zero_bit : (j q p : ℕ) → p ≡ suc (suc (suc (suc (suc q)))) → q < j → get_or (bits j) p 0 ≡ 0
zero_bit j q p e h =
    let zeros : length (replicate {A = ℕ} j 0) ≡ j = length-replicate {A = ℕ} j 0 in
    rw e (get_or-append {A = ℕ} (replicate j 0) (1 ∷ []) 0 q (omega arith) ∙ get_or-replicate {A = ℕ} j q 0 0 h)

last_bit : (j p : ℕ) → p ≡ suc (suc (suc (suc (suc j)))) → get_or (bits j) p 0 ≡ 1
last_bit j p e = rw e (get_or_at {A = ℕ} (replicate j 0) 1 [] 0 j (length-replicate {A = ℕ} j 0))

-- ---- their bytes

-- a byte by its bits
byte-is : (s : List ℕ) (p : ℕ) {b₀ b₁ b₂ b₃ b₄ b₅ b₆ b₇ : ℕ} → get_or s p 0 ≡ b₀ → get_or s (p + 1) 0 ≡ b₁ → get_or s (p + 2) 0 ≡ b₂ → get_or s (p + 3) 0 ≡ b₃
    → get_or s (p + 4) 0 ≡ b₄ → get_or s (p + 5) 0 ≡ b₅ → get_or s (p + 6) 0 ≡ b₆ → get_or s (p + 7) 0 ≡ b₇
    → byte_from s p ≡ b₀ + 2 * (b₁ + 2 * (b₂ + 2 * (b₃ + 2 * (b₄ + 2 * (b₅ + 2 * (b₆ + 2 * b₇))))))
unfolding byte_from
byte-is s p e₀ e₁ e₂ e₃ e₄ e₅ e₆ e₇ = rw (e₀, e₁, e₂, e₃, e₄, e₅, e₆, e₇)

-- 8 (m + 2) bits: m bytes stand between the first and the last
module _ (m : ℕ) where
  abbrev string : List ℕ
  string = bits (8 * m + 10)

  zero-at : (p : ℕ) → 5 ≤ p → p < 8 * m + 15 → get_or string p 0 ≡ 0
  zero-at p a b = zero_bit (8 * m + 10) (p - 5) p (omega arith) (omega arith)

  first_byte : byte_from string 0 ≡ 31
  first_byte =
      byte-is string 0 refl refl refl refl refl (zero-at 5 (omega arith) (omega arith)) (zero-at 6 (omega arith) (omega arith))
      (zero-at 7 (omega arith) (omega arith))

  middle-byte : (k : ℕ) → 0 < k → k < m + 1 → byte_from string (8 * k) ≡ 0
  middle-byte k l h =
      let z : (i : ℕ) → i < 8 → get_or string (8 * k + i) 0 ≡ 0 = λ i b. zero-at (8 * k + i) (omega arith) (omega arith) in
      byte-is string (8 * k) (zero-at (8 * k) (omega arith) (omega arith)) (z 1 (omega arith)) (z 2 (omega arith)) (z 3 (omega arith)) (z 4 (omega arith))
      (z 5 (omega arith)) (z 6 (omega arith)) (z 7 (omega arith))

  last_byte : byte_from string (8 * (m + 1)) ≡ 128
  last_byte =
      let k = m + 1 in
      let z : (i : ℕ) → i < 7 → get_or string (8 * k + i) 0 ≡ 0 = λ i b. zero-at (8 * k + i) (omega arith) (omega arith) in
      byte-is string (8 * k) (zero-at (8 * k) (omega arith) (omega arith)) (z 1 (omega arith)) (z 2 (omega arith)) (z 3 (omega arith)) (z 4 (omega arith))
      (z 5 (omega arith)) (z 6 (omega arith)) (last_bit (8 * m + 10) (8 * k + 7) (omega arith))

  abbrev bytes : List ℕ
  bytes = 31 ∷ (replicate m 0 ++ (128 ∷ []))

  length-bytes : length bytes ≡ m + 2
  length-bytes =
      let zeros : length (replicate {A = ℕ} m 0) ≡ m = length-replicate {A = ℕ} m 0 in
      let rest : length (replicate {A = ℕ} m 0 ++ (128 ∷ [])) ≡ m + 1 = length-append (replicate {A = ℕ} m 0) (128 ∷ []) ∙ ap (λ n. n + 1) zeros in
      omega arith

  byte_at : (k : ℕ) → k < m + 2 → get_or bytes k 0 ≡ byte_from string (8 * k)
  byte_at zero h = sym first_byte
  byte_at (suc k) h =
      elim (dec_lt k m) [
        | yes l ↦
            let zeros : length (replicate {A = ℕ} m 0) ≡ m = length-replicate {A = ℕ} m 0 in
            get_or-append {A = ℕ} (replicate m 0) (128 ∷ []) 0 k (omega arith) ∙ get_or-replicate {A = ℕ} m k 0 0 l ∙ sym (middle-byte (suc k) (omega arith) (omega arith))
        | no l ↦
            let last : k ≡ m = omega arith in
            let place : m + 1 ≡ suc k = omega arith in
            get_or_at {A = ℕ} (replicate m 0) 128 [] 0 k (length-replicate {A = ℕ} m 0 ∙ sym last) ∙ sym last_byte ∙ ap (λ n. byte_from string (8 * n)) place
      ]

  bytes-of-string : bytes_of string ≡ bytes
  unfolding bytes_of
  bytes-of-string =
      let count : length string / 8 ≡ m + 2 = omega (arith, length-bits (8 * m + 10)) in
      ap (λ n. tab n (λ k. byte_from string (8 * k))) count ∙ sym (tab-ext bytes (m + 2) (λ k. byte_from string (8 * k)) length-bytes byte_at)

-- a byte alone: 1111, then 1001
one : bytes_of (bits 2) ≡ 159 ∷ []
unfolding bytes_of byte_from tab
one = refl

-- n bytes
bytes-of-bits : (n : ℕ) → 0 < n → bytes_of (bits (8 * n - 6)) ≡ padding n
bytes-of-bits n h =
    elim (ℕ_discrete n 1) [
      | yes e ↦ ap (λ k. bytes_of (bits (8 * k - 6))) e ∙ one ∙ sym (padding-one n e)
      | no e ↦
          let j : 8 * n - 6 ≡ 8 * (n - 2) + 10 = omega arith in
          ap (λ i. bytes_of (bits i)) j ∙ bytes-of-string (n - 2) ∙ sym (padding-more n e)
    ]

-- ---- the bits that follow a message

-- how many zeros: (- m - 2) mod x of m = 8n + 4 bits and x = 8 rate
zeros-count : (rate n : ℕ) → 0 < rate → (8 * rate - (8 * n + 4 + 2) % (8 * rate)) % (8 * rate) ≡ 8 * (rate - n % rate) - 6
zeros-count rate n some =
    let less : n % rate < rate = mod-lt n some in
    let whole : n / rate * rate + n % rate ≡ n = div-add-mod' n rate in
    let split : 8 * n + 4 + 2 ≡ n / rate * (8 * rate) + (8 * (n % rate) + 6) = omega arith in
    let rest : (8 * n + 4 + 2) % (8 * rate) ≡ 8 * (n % rate) + 6 = ap (λ x. x % (8 * rate)) split ∙ digits_mod (n / rate) (omega arith) in
    let lacks : 8 * rate - (8 * n + 4 + 2) % (8 * rate) ≡ 8 * (rate - n % rate) - 6 = omega arith in
    ap (λ x. x % (8 * rate)) lacks ∙ mod-eq_of_lt (omega arith)

-- they are the padding's bytes
pub ending-bytes : (rate n : ℕ) → 0 < rate → bytes_of (ending rate n) ≡ padding (rate - n % rate)
unfolding ending suffix pad101
ending-bytes rate n some =
    ap (λ j. bytes_of (bits j)) (zeros-count rate n some) ∙ bytes-of-bits (rate - n % rate) (omega (arith, mod-lt n some))

-- they fill up the message's bits to whole bytes and blocks, and they are bits
pub length-ending : (rate n : ℕ) → 0 < rate → length (ending rate n) ≡ 8 * (rate - n % rate)
unfolding ending suffix pad101
length-ending rate n some = ap (λ j. length (bits j)) (zeros-count rate n some) ∙ length-bits (8 * (rate - n % rate) - 6) ∙ omega (arith, mod-lt n some)

bit-lt : (j k : ℕ) → get_or (bits j) k 0 < 2
bit-lt j zero = lit< tt
bit-lt j (suc zero) = lit< tt
bit-lt j (suc (suc zero)) = lit< tt
bit-lt j (suc (suc (suc zero))) = lit< tt
bit-lt j (suc (suc (suc (suc zero)))) = lit< tt
bit-lt j (suc (suc (suc (suc (suc k))))) =
    elim (dec_lt k j) [
      | yes l ↦ rw (zero_bit j k (suc (suc (suc (suc (suc k))))) refl l) (lit< tt)
      | no l ↦
          elim (ℕ_discrete k j) [
            | yes e ↦ rw (last_bit j (suc (suc (suc (suc (suc k))))) (ap (λ i. suc (suc (suc (suc (suc i))))) e)) (lit< tt)
            | no e ↦
                let long : length (bits j) ≤ suc (suc (suc (suc (suc k)))) = omega (arith, length-bits j) in
                let past : get_or (bits j) (suc (suc (suc (suc (suc k))))) 0 ≡ 0 = get_or-eq_default (bits j) 0 long in
                rw past (lit< tt)
          ]
    ]

pub ending-lt : (rate n k : ℕ) → get_or (ending rate n) k 0 < 2
unfolding ending suffix pad101
ending-lt rate n k = bit-lt ((8 * rate - (8 * n + 4 + 2) % (8 * rate)) % (8 * rate)) k
