-- A whole message: what is fed byte by byte, and finished, is absorbed, and gives SHAKE's output; what is absorbed is, bit for bit, the message, 1111 and pad10*1, in whole blocks.
-- Rests on Ending, and on FeedLaws, Bytes and Strings of specs/.
use Rattle.std.specs.Prelude.{◌≡◌, List, ◌++◌, ℕ, suc, ◌+◌, ◌-◌, ◌*◌, ◌/◌, ◌%◌, ◌<◌, length, replicate}
use Rattle.std.proofs.Common.{sym, ap, ◌∙◌, suc-mul, div-add-mod', mod-lt, arith, length-append}
use Rattle.std.proofs.Math.Nat.{div-eq_of_eq-mul_left}
use Rattle.ground.specs.Fill.{tab}
use Rattle.shake.specs.declared.Sponge.{Sponge}
use Rattle.shake.specs.Padding.{padding, length-padding}
use Rattle.shake.specs.Sponge.{padded, absorbed, sponge, squeezed, shake, bytes_of, ending}
use Rattle.shake.specs.Feed.{fresh, fed, finished, output}
use Rattle.keccak.specs.Words.{Words}
use Rattle.shake.specs.FeedLaws.{fed-place, fed-padding, fed-append, fed-blocks, Holds, at}
use Rattle.shake.specs.Bytes.{Bytes, bytes-append, bytes-padding, words-absorbed, words-zeros}
use Rattle.shake.specs.Strings.{Bits, bits_of, bits-append, bits-bytes}
use Rattle.shake.proofs.Ending.{ending-bytes, length-ending, ending-lt}

-- ---- the sponge that took it

-- a message that is fed byte by byte, and finished, is absorbed
pub finished-sponge : (rate : ℕ) → 0 < rate → (m : List ℕ) → finished rate (fed rate fresh m) ≡ sponge rate m
unfolding sponge padded fresh
finished-sponge rate some m =
    let n : ℕ = length m / rate in
    let t : Sponge = fed rate fresh m in
    let place : t.at ≡ length m % rate = fed-place rate some m in
    let all : n * rate + length m % rate ≡ length m = div-add-mod' (length m) rate in
    let less : length m % rate < rate = mod-lt (length m) some in
    let pad : List ℕ = padding (rate - length m % rate) in
    let pad-long : length pad ≡ rate - length m % rate = length-padding (rate - length m % rate) (omega arith) in
    let long : length (m ++ pad) ≡ suc n * rate = length-append m pad ∙ omega (arith, suc-mul n rate) in
    let blocks : length (m ++ pad) / rate ≡ suc n = div-eq_of_eq-mul_left some long in
    let both : at (finished rate t) 0 ≡ at (absorbed rate (replicate 25 0) (suc n) (m ++ pad)) 0 =
    sym (fed-padding rate t.lanes t.at (omega arith)) ∙ ap (λ p. fed rate t (padding (rate - p))) place ∙ sym (fed-append rate fresh m pad)
    ∙ fed-blocks rate some (replicate 25 0) (suc n) (m ++ pad) long in
    ap (λ s. s.lanes) both ∙ ap (λ k. absorbed rate (replicate 25 0) k (m ++ pad)) (sym blocks)
    ∙ ap (λ e. absorbed rate (replicate 25 0) (length (m ++ e) / rate) (m ++ e)) (sym (ending-bytes rate (length m) some))

-- ---- what is squeezed from a finished sponge

pub output-shake : (rate : ℕ) → 0 < rate → (m : List ℕ) (n : ℕ) → output rate (fed rate fresh m) n ≡ shake rate m n
unfolding output shake
output-shake rate some m n = ap (λ s. tab n (squeezed rate s)) (finished-sponge rate some m)

pub holds-out : {rate : ℕ} {s : Sponge} {m : List ℕ} → 0 < rate → Holds rate m s → (n : ℕ) {t : List ℕ} → t ≡ output rate s n → t ≡ shake rate m n
holds-out {rate} {m = m} some h n o = o ∙ ap (λ x. output rate x n) h.sponge ∙ output-shake rate some m n

-- ---- its bytes are bytes, and the lanes stay words

-- the state that has absorbed a message of bytes, and every state that is squeezed
pub words-sponge : (rate : ℕ) → 0 < rate → {m : List ℕ} → Bytes m → Words (sponge rate m)
unfolding sponge padded
words-sponge rate some {m} g =
    let end : Bytes (m ++ padding (rate - length m % rate)) = bytes-append g (bytes-padding (rate - length m % rate)) in
    rw (ending-bytes rate (length m) some) (words-absorbed rate _ (words-zeros 25) end)

-- ---- what is absorbed

ending-bits : (rate n : ℕ) → Bits (ending rate n)
ending-bits rate n = record { bit = ending-lt rate n }

-- step 1: P = N ‖ pad(r, len(N)), where N is the message and 1111
pub padded-bits : (rate : ℕ) → 0 < rate → (m : List ℕ) → bits_of (padded rate m) ≡ bits_of m ++ ending rate (length m)
unfolding padded
padded-bits rate some m =
    bits-append m (bytes_of (ending rate (length m)))
    ∙ ap (λ e. bits_of m ++ e) (bits-bytes (ending rate (length m)) (ending-bits rate (length m)) (omega (arith, length-ending rate (length m) some)))

-- step 2: whole blocks
pub length-padded : (rate : ℕ) → 0 < rate → (m : List ℕ) → length (padded rate m) ≡ (length m / rate + 1) * rate
unfolding padded
length-padded rate some m =
    let less : length m % rate < rate = mod-lt (length m) some in
    let all : length m / rate * rate + length m % rate ≡ length m = div-add-mod' (length m) rate in
    let pad : length (bytes_of (ending rate (length m))) ≡ rate - length m % rate = ap length (ending-bytes rate (length m) some) ∙ length-padding (rate - length m % rate) (omega arith) in
    length-append m (bytes_of (ending rate (length m))) ∙ omega arith
