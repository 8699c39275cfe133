-- One step of a loop over a block's words and over its padding, and the part of a book that is block b: what the code's proofs cite.
-- Rests on Block.
use Rattle.std.specs.Prelude.{◌≡◌, ℕ, zero, suc, ◌≤◌, Bool, ◌&&◌, get_or, ◌+◌, ◌-◌, ◌*◌, ◌/◌, ◌%◌, ◌^◌, ◌<◌, true, false, List, length, take, drop, ◌≢◌, slice_index, refl}
use Rattle.std.proofs.Common.{sym, ap₂, ◌∙◌, add-one, arith, length-drop, get_or-drop, length-take-le, ne_eqb}
use Rattle.std.specs.List.{list_all}
use Rattle.std.proofs.lemmas.List.Folds.{list_all_more}
use Rattle.ground.specs.Pick.{both}
use Rattle.ground.specs.Tests.{every, every-fails}
use Rattle.blocks.specs.Block.{word, sum_words, size_of, zero_at, padded, block_at, IsBlock}

pub sum_more : (k : ℕ) (s : List ℕ) → sum_words (k + 1) s ≡ sum_words k s + word s k
unfolding sum_words
sum_more k s = rw (add-one k)

pub check-more : (place k : ℕ) {a w r : ℕ} (s : List ℕ) → a ≡ (place + sum_words k s) % 2 ^ 32 → w ≡ word s k → r ≡ (a + w) % 2 ^ 32 → r ≡ (place + sum_words (k + 1) s) % 2 ^ 32
check-more place k s p q h = omega (arith, sum_more k s)

pub padded-fails : {size : ℕ} (s : List ℕ) (k : ℕ) → size ≡ size_of s → k < 500 - size → (slice_index s (8 + size + k) ≢ 0) → false ≡ padded s
unfolding padded
padded-fails {size} s k e l n = sym (rw (sym e) (every-fails (500 - size) (zero_at s size) k l (ne_eqb _ _ n)))

pub padded-holds : {size : ℕ} (s : List ℕ) (k : ℕ) → size ≡ size_of s → k ≡ 500 - size → every k (zero_at s size) ≡ true → true ≡ padded s
unfolding padded
padded-holds {size} s k e l t = sym (rw (sym e) (rw l at t))

-- a test of each of n elements of s, from one on
pub all-every : (p : ℕ → Bool) (s : List ℕ) (from n : ℕ) → from + n ≤ length s → list_all p (take n (drop from s)) ≡ every n (λ k. p (slice_index s (from + k)))
all-every p s from zero l = refl
all-every p s from (suc n) l =
    let before = all-every p s from n (omega arith) in
    let here = list_all_more p (drop from s) n 0 (omega (arith, length-drop from s)) in
    let x : get_or (drop from s) n 0 ≡ get_or s (from + n) 0 = get_or-drop from s n 0 in
    let next : list_all p (take (suc n) (drop from s)) ≡ list_all p (take (n + 1) (drop from s)) = rw (add-one n) refl in
    next ∙ here ∙ ap₂ (λ a b. a && p b) before x ∙ swapped (every n (λ k. p (slice_index s (from + k)))) (p (slice_index s (from + n)))
  where
    swapped : (a b : Bool) → (a && b) ≡ both b a
    swapped true true = refl
    swapped true false = refl
    swapped false true = refl
    swapped false false = refl

-- ---- block b of a book

pub length-block-at : (b : ℕ) (s : List ℕ) → b < length s / 512 → length (block_at b s) ≡ 512
length-block-at b s l = length-take-le 512 (drop (512 * b) s) (simp length-drop (omega arith))

-- the part from byte 512 · b to byte 512 · b + 512
pub block-part : (b : ℕ) (s : List ℕ) → b < length s / 512 → IsBlock s b (take (512 * b + 512 - 512 * b) (drop (512 * b) s))
block-part b s l = let e : 512 * b + 512 - 512 * b ≡ 512 = omega arith in rw e (record { is = refl; long = length-block-at b s l })
