-- The public expansion block by block: a byte of a block is the run's byte, Algorithm 6's line 6, and what a loop over the blocks has written.
-- Rests on Seeds and on ground's pieces.
use Rattle.std.specs.Prelude.{◌≡◌, refl, List, [], ◌∷◌, ◌++◌, ℕ, ◌+◌, ◌-◌, ◌*◌, ◌/◌, ◌%◌, ◌<◌, ◌≤◌, min, length, get_or}
use Rattle.std.proofs.Common.{sym, ap, ap₂, ◌∙◌, arith, length-append, get_or-append-add}
use Rattle.std.proofs.Math.Decide.{dec_lt}
use Rattle.std.proofs.Math.Arith.{digits_div, digits_mod}
use Rattle.std.proofs.Math.ListN.{get_or-append}
use Rattle.ground.specs.Fill.{tab, length-tab, get_or-tab, tab-ext}
use Rattle.ground.specs.Segment.{Segment, segment-none, fill_end}
use Rattle.ground.specs.Pieces.{fill-then}
use Rattle.shake.specs.Sponge.{lane_byte, shake, squeezed, sponge, shake128}
use Rattle.seeds.specs.Seeds.{little_endian, block, snova_shake, expanded}

-- a number's eight bytes, one by one
pub eight-bytes : (x : ℕ) {b₀ b₁ b₂ b₃ b₄ b₅ b₆ b₇ : ℕ} → b₀ ≡ lane_byte x 0 → b₁ ≡ lane_byte x 1 → b₂ ≡ lane_byte x 2 → b₃ ≡ lane_byte x 3
    → b₄ ≡ lane_byte x 4 → b₅ ≡ lane_byte x 5 → b₆ ≡ lane_byte x 6 → b₇ ≡ lane_byte x 7
    → b₀ ∷ b₁ ∷ b₂ ∷ b₃ ∷ b₄ ∷ b₅ ∷ b₆ ∷ b₇ ∷ [] ≡ little_endian 8 x
unfolding little_endian tab
eight-bytes x e₀ e₁ e₂ e₃ e₄ e₅ e₆ e₇ = rw (e₀, e₁, e₂, e₃, e₄, e₅, e₆, e₇)

-- byte j of block `number` is byte 168 · number + j of the run
pub block-byte : (seed : List ℕ) (number j : ℕ) → j < 168 → get_or (block seed number) j 0 ≡ snova_shake seed (number * 168 + j)
unfolding snova_shake
block-byte seed number j h = ap₂ (λ q p. get_or (block seed q) p 0) (sym (digits_div number h)) (sym (digits_mod number h))

-- ---- a loop over the blocks

-- `at` bytes stand in the list t, which was s; if more are to come, the next is byte `skip` of block `number`
pub record Run (seed : List ℕ) (start : ℕ) (s : List ℕ) (number skip at : ℕ) (t : List ℕ) : Type 0 where
  pub upto : at ≤ length s
  pub within : skip < 168
  pub next : at < length s → number * 168 + skip ≡ start + at
  pub written : Segment s 0 at (λ k. snova_shake seed (start + k)) t

pub run_none : {seed : List ℕ} {start : ℕ} {s : List ℕ} → Run seed start s (start / 168) (start % 168) 0 s
run_none {start = start} = record { upto = omega arith; within = omega arith; next = λ h. omega arith; written = segment-none }

-- what is left of a block, or as much of it as is asked for
pub run-next : {seed : List ℕ} {start : ℕ} {s t u bytes : List ℕ} {number skip at n : ℕ} → Run seed start s number skip at t → at < length t → bytes ≡ block seed number
    → n ≡ min (168 - skip) (length t - at) → Segment t at n (λ k. get_or bytes (skip + k) 0) u → Run seed start s (number + 1) 0 (at + n) u
run-next {seed} {start} {s} {t} {bytes = bytes} {number} {skip} {at} {n} r h made chosen w =
    let long : length t ≡ length s = r.written.long in
    let place : number * 168 + skip ≡ start + at = r.next (omega arith) in
    record {
      upto = omega arith;
      within = omega arith;
      next = λ l. omega arith;
      written =
          fill-then r.written w
          (λ d l. ap (λ b. get_or b (skip + d) 0) made ∙ block-byte seed number (skip + d) (omega (arith, r.within)) ∙ ap (snova_shake seed) (omega arith));
    }

-- the block's number stays small
pub run-number : {seed : List ℕ} {start : ℕ} {s t : List ℕ} {number skip at : ℕ} → Run seed start s number skip at t → at < length t → number * 168 ≤ start + length t
run-number r h = omega (arith, r.written.long, r.next (omega (arith, r.written.long)))

pub run_end : {seed : List ℕ} {start : ℕ} {s t : List ℕ} {number skip at : ℕ} → Run seed start s number skip at t → length t ≤ at → t ≡ expanded seed start (length s)
unfolding expanded
run_end r h = fill_end r.written refl (omega (arith, r.upto, r.written.long))

-- ---- Algorithm 6

-- the first d bytes of a block are those of SHAKE128
block-first : (seed : List ℕ) (number d k : ℕ) → d ≤ 168 → k < d → get_or (shake128 (seed ++ little_endian 8 number) d) k 0 ≡ get_or (block seed number) k 0
unfolding block shake
block-first seed number d k fits h =
    let rule : ℕ → ℕ = squeezed 168 (sponge 168 (seed ++ little_endian 8 number)) in
    get_or-tab d rule k h ∙ sym (get_or-tab 168 rule k (omega arith))

length-shake : (rate : ℕ) (m : List ℕ) (n : ℕ) → length (shake rate m n) ≡ n
unfolding shake
length-shake rate m n = length-tab n (squeezed rate (sponge rate m))

-- Algorithm 6, line 6: x ← x ‖ SHAKE128(M ‖ b, d), where x has b blocks and d is 168 or what is still asked for
pub algorithm-6 : (seed : List ℕ) (b d : ℕ) → d ≤ 168 → expanded seed 0 (b * 168 + d) ≡ expanded seed 0 (b * 168) ++ shake128 (seed ++ little_endian 8 b) d
unfolding expanded
algorithm-6 seed b d fits = sym (tab-ext whole (b * 168 + d) (λ k. snova_shake seed (0 + k)) long at)
  where
    x : List ℕ
    x = tab (b * 168) (λ k. snova_shake seed (0 + k))

    more : List ℕ
    more = shake128 (seed ++ little_endian 8 b) d

    whole : List ℕ
    whole = x ++ more

    x-long : length x ≡ b * 168
    x-long = length-tab (b * 168) (λ k. snova_shake seed (0 + k))

    long : length whole ≡ b * 168 + d
    long = length-append x more ∙ ap₂ ◌+◌ x-long (length-shake 168 (seed ++ little_endian 8 b) d)

    at : (k : ℕ) → k < b * 168 + d → get_or whole k 0 ≡ snova_shake seed (0 + k)
    at k h =
        elim (dec_lt k (b * 168)) [
          | yes l ↦ get_or-append x more 0 k (omega (arith, x-long)) ∙ get_or-tab (b * 168) (λ k. snova_shake seed (0 + k)) k l
          | no l ↦
              let place : k ≡ length x + (k - b * 168) = omega (arith, x-long) in
              ap (λ i. get_or whole i 0) place ∙ get_or-append-add x more (k - b * 168) 0 ∙ block-first seed b d (k - b * 168) fits (omega arith)
              ∙ block-byte seed b (k - b * 168) (omega arith) ∙ ap (snova_shake seed) (omega arith)
        ]
