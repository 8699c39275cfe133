-- Feeding byte by byte is absorbing block by block, and feeding piece by piece is feeding the concatenation. What that makes of a whole message is in proofs/Messages.
-- Rests on Feed and the kit's lists.
use Rattle.std.specs.Prelude.{◌≡◌, refl, List, [], ◌∷◌, ◌++◌, ℕ, zero, suc, ◌+◌, ◌-◌, ◌*◌, ◌/◌, ◌%◌, ◌^◌, ◌<◌, ◌≤◌, length, get_or, take, drop, replicate}
use Rattle.std.proofs.Common.{sym, ap, ◌∙◌, mod-eq_of_lt, zero-mul, suc-mul, div-add-mod', mod-lt, add-one, arith, eq-eqb, ne_eqb, length-drop, take-append-drop, drop_of_length-le, drop-cons, length-take-le}
use Rattle.std.proofs.Math.Nat.{add-div_left, add-mod_left, div-eq_of_lt}
use Rattle.std.proofs.Math.Decide.{ℕ_discrete}
use Rattle.std.specs.Int.Bits.{xor_zero_r}
use Rattle.std.proofs.lemmas.List.{set-get_or}
use Rattle.keccak.specs.Keccak.{keccak_f}
use Rattle.shake.specs.declared.Sponge.{Sponge}
use Rattle.shake.specs.Padding.{padding, padding-one, padding-more, length-padding}
use Rattle.shake.specs.Sponge.{add_byte, add_bytes, absorbed, lane_byte, byte_at, permuted, squeezed}
use Rattle.shake.specs.Feed.{fresh, Fresh, turned, fed_byte, fed, Fed, finished}

-- a sponge from its parts
abbrev pub at : List ℕ → ℕ → Sponge
at s p = record { lanes = s; at = p }

-- ---- one byte

pub turned-full : (rate : ℕ) (s : List ℕ) (p : ℕ) → p ≡ rate → turned rate s p ≡ at (keccak_f s) 0
unfolding turned
turned-full rate s p e = rw (eq-eqb p rate e)

pub turned-within : (rate : ℕ) (s : List ℕ) (p : ℕ) → (p ≡ rate → ⊥) → turned rate s p ≡ at s p
unfolding turned
turned-within rate s p e = rw (ne_eqb p rate e)

-- ---- a loop over the bytes of a message

pub fed-none : (rate : ℕ) (s : Sponge) (m : List ℕ) (i : ℕ) → length m ≤ i → fed rate s (drop i m) ≡ s
unfolding fed
fed-none rate s m i h = let none : drop i m ≡ [] = drop_of_length-le m h in rw none

pub fed-next : (rate : ℕ) (s : Sponge) (m : List ℕ) (i : ℕ) → i < length m → fed rate (fed_byte rate s (get_or m i 0)) (drop (i + 1) m) ≡ fed rate s (drop i m)
unfolding fed
fed-next rate s m i h = let next : drop i m ≡ get_or m i 0 ∷ drop (suc i) m = drop-cons m i 0 h in rw (add-one i, next)

-- ---- piece by piece

pub fed-append : (rate : ℕ) (s : Sponge) (a b : List ℕ) → fed rate s (a ++ b) ≡ fed rate (fed rate s a) b
unfolding fed
fed-append rate s [] b = refl
fed-append rate s (x ∷ a) b = fed-append rate (fed_byte rate s x) a b

-- ---- a part of a block, and its end

pub fed-within : (rate : ℕ) (s : List ℕ) (p : ℕ) (bs : List ℕ) → p + length bs < rate → fed rate (at s p) bs ≡ at (add_bytes s p bs) (p + length bs)
unfolding fed fed_byte add_bytes
fed-within rate s p [] h = ap (at s) (omega arith)
fed-within rate s p (b ∷ bs) h =
    ap (λ t. fed rate t bs) (turned-within rate (add_byte s p b) (p + 1) (λ e. omega arith)) ∙ fed-within rate (add_byte s p b) (p + 1) bs (omega arith)
    ∙ ap (at (add_bytes (add_byte s p b) (p + 1) bs)) (omega arith)

pub fed-full : (rate : ℕ) (s : List ℕ) (p : ℕ) (bs : List ℕ) → p < rate → p + length bs ≡ rate → fed rate (at s p) bs ≡ at (keccak_f (add_bytes s p bs)) 0
unfolding fed fed_byte add_bytes
fed-full rate s p [] h e = absurd (omega arith)
fed-full rate s p (b ∷ []) h e = turned-full rate (add_byte s p b) (p + 1) (omega arith)
fed-full rate s p (b ∷ c ∷ bs) h e =
    ap (λ t. fed rate t (c ∷ bs)) (turned-within rate (add_byte s p b) (p + 1) (λ f. omega arith)) ∙ fed-full rate (add_byte s p b) (p + 1) (c ∷ bs) (omega arith) (omega arith)

-- ---- whole blocks

pub fed-blocks : (rate : ℕ) → 0 < rate → (s : List ℕ) (n : ℕ) (m : List ℕ) → length m ≡ n * rate → fed rate (at s 0) m ≡ at (absorbed rate s n m) 0
unfolding fed absorbed
fed-blocks rate some s zero [] e = refl
fed-blocks rate some s zero (x ∷ m) e = absurd (omega (arith, e ∙ zero-mul rate))
fed-blocks rate some s (suc n) m e =
    let long : length m ≡ n * rate + rate = e ∙ suc-mul n rate in
    let first : length (take rate m) ≡ rate = length-take-le rate m (omega arith) in
    let rest : length (drop rate m) ≡ n * rate = length-drop rate m ∙ (omega arith) in
    ap (fed rate (at s 0)) (sym (take-append-drop rate m)) ∙ fed-append rate (at s 0) (take rate m) (drop rate m)
    ∙ ap (λ t. fed rate t (drop rate m)) (fed-full rate s 0 (take rate m) some (omega arith)) ∙ fed-blocks rate some (keccak_f (add_bytes s 0 (take rate m))) n (drop rate m) rest

-- ---- the padding

add-zero-byte : (s : List ℕ) (p : ℕ) → add_byte s p 0 ≡ s
unfolding add_byte
add-zero-byte s p =
    let none : 0 * 2 ^ (8 * (p % 8)) ≡ 0 = zero-mul _ in
    rw (none, xor_zero_r (get_or s (p / 8) 0)) (set-get_or s (p / 8) 0)

add-zeros : (s : List ℕ) (p n b : ℕ) → add_bytes s p (replicate n 0 ++ (b ∷ [])) ≡ add_byte s (p + n) b
unfolding add_bytes
add-zeros s p zero b = ap (λ q. add_byte s q b) (omega arith)
add-zeros s p (suc n) b =
    ap (λ t. add_bytes t (p + 1) (replicate n 0 ++ (b ∷ []))) (add-zero-byte s p) ∙ add-zeros s (p + 1) n b ∙ ap (λ q. add_byte s q b) (omega arith)

pub finished-one : (rate : ℕ) (s : List ℕ) (p : ℕ) → p + 1 ≡ rate → finished rate (at s p) ≡ keccak_f (add_byte s p 159)
unfolding finished
finished-one rate s p e = rw (eq-eqb (p + 1) rate e)

pub finished-more : (rate : ℕ) (s : List ℕ) (p : ℕ) → (p + 1 ≡ rate → ⊥) → finished rate (at s p) ≡ keccak_f (add_byte (add_byte s p 31) (rate - 1) 128)
unfolding finished
finished-more rate s p e = rw (ne_eqb (p + 1) rate e)

-- what the code does at the end is to feed the padding
pub fed-padding : (rate : ℕ) (s : List ℕ) (p : ℕ) → p < rate → fed rate (at s p) (padding (rate - p)) ≡ at (finished rate (at s p)) 0
unfolding add_bytes
fed-padding rate s p h =
    let long : length (padding (rate - p)) ≡ rate - p = length-padding (rate - p) (omega arith) in
    fed-full rate s p (padding (rate - p)) h (omega arith)
    ∙ elim (ℕ_discrete (p + 1) rate) [
      | yes e ↦ ap (λ bs. at (keccak_f (add_bytes s p bs)) 0) (padding-one (rate - p) (omega arith)) ∙ ap (λ t. at t 0) (sym (finished-one rate s p e))
      | no e ↦
          let last : p + 1 + (rate - p - 2) ≡ rate - 1 = omega arith in
          ap (λ bs. at (keccak_f (add_bytes s p bs)) 0) (padding-more (rate - p) (λ f. e (omega arith)))
          ∙ ap (λ t. at (keccak_f t) 0) (add-zeros (add_byte s p 31) (p + 1) (rate - p - 2) 128 ∙ ap (λ q. add_byte (add_byte s p 31) q 128) last)
          ∙ ap (λ t. at t 0) (sym (finished-more rate s p e))
    ]

-- ---- a whole message

-- the place of the next byte is what the message has beyond whole blocks
pub fed-place : (rate : ℕ) → 0 < rate → (m : List ℕ) → (fed rate fresh m).at ≡ length m % rate
unfolding fresh
fed-place rate some m =
    let n : ℕ = length m / rate in
    let all : n * rate + length m % rate ≡ length m = div-add-mod' (length m) rate in
    let less : length m % rate < rate = mod-lt (length m) some in
    let whole : length (take (n * rate) m) ≡ n * rate = length-take-le (n * rate) m (omega arith) in
    let rest : length (drop (n * rate) m) ≡ length m % rate = length-drop (n * rate) m ∙ omega arith in
    let s : List ℕ = absorbed rate (replicate 25 0) n (take (n * rate) m) in
    ap (λ l. (fed rate (at (replicate 25 0) 0) l).at) (sym (take-append-drop (n * rate) m))
    ∙ ap (λ t. t.at) (fed-append rate (at (replicate 25 0) 0) (take (n * rate) m) (drop (n * rate) m)
    ∙ ap (λ t. fed rate t (drop (n * rate) m)) (fed-blocks rate some (replicate 25 0) n (take (n * rate) m) whole)
    ∙ fed-within rate s 0 (drop (n * rate) m) (omega arith)) ∙ omega arith

-- ---- squeezing

-- behind a whole block the output goes on from the permuted state
pub squeezed-turn : (rate : ℕ) → 0 < rate → (s : List ℕ) (d : ℕ) → squeezed rate (keccak_f s) d ≡ squeezed rate s (rate + d)
unfolding squeezed permuted
squeezed-turn rate some s d =
    let block : (rate + d) / rate ≡ suc (d / rate) = add-div_left d some ∙ add-one (d / rate) in
    let place : (rate + d) % rate ≡ d % rate = add-mod_left rate d in
    rw (block, place)

-- the bytes of a lane of the first block
pub squeezed-lane : (rate : ℕ) → rate % 8 ≡ 0 → (s : List ℕ) (p : ℕ) → p % 8 ≡ 0 → p < rate → (d : ℕ) → d < 8 → lane_byte (get_or s (p / 8) 0) d ≡ squeezed rate s (p + d)
unfolding squeezed permuted byte_at
squeezed-lane rate whole s p aligned h d l =
    let below : p + d < rate = omega arith in
    let lane : (p + d) / 8 ≡ p / 8 = omega arith in
    let byte : (p + d) % 8 ≡ d = omega arith in
    rw (div-eq_of_lt below, mod-eq_of_lt below, lane, byte)

-- ---- for callers: a sponge that has taken a message, piece by piece

-- s has taken the message m
pub record Holds (rate : ℕ) (m : List ℕ) (s : Sponge) : Type 0 where
  pub sponge : s ≡ fed rate fresh m

pub holds-first : {rate : ℕ} {s t : Sponge} {m : List ℕ} → Fresh s → Fed rate s m t → Holds rate m t
holds-first {rate} {m = m} e f = record { sponge = f.sponge ∙ ap (λ x. fed rate x m) e.sponge }

pub holds_more : {rate : ℕ} {s t : Sponge} {m b : List ℕ} → Holds rate m s → Fed rate s b t → Holds rate (m ++ b) t
holds_more {rate} {m = m} {b} h f = record { sponge = f.sponge ∙ ap (λ x. fed rate x b) h.sponge ∙ sym (fed-append rate fresh m b) }
