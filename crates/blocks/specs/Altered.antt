-- A block with exactly one of its words altered never has the right check: the wrapping sum changes, or the check word alone does.
-- Rests on Block.
use Rattle.std.specs.Prelude.{◌≡◌, ℕ, zero, suc, ◌+◌, ◌*◌, ◌/◌, ◌%◌, ◌^◌, ◌<◌, ◌≤◌, true, false, List, length, ◌≢◌, slice_index, refl}
use Rattle.std.proofs.Common.{sym, ap, ap₂, ◌∙◌, not-suc-le-zero, arith, ext_get_or, eqb-true, ne_eqb}
use Rattle.std.proofs.Math.Decide.{dec_lt, ℕ_discrete}
use Rattle.blocks.specs.Block.{word, sum_words, check_of, checked}

-- a list of bytes: what a slice of `u8` always holds
pub record Bytes (s : List ℕ) : Type 0 where
  pub below : (k : ℕ) → slice_index s k < 256

-- every word of t but word k is that of s
pub record SameBut (k : ℕ) (s t : List ℕ) : Type 0 where
  pub others : (j : ℕ) → j < 128 → (j ≢ k) → word t j ≡ word s j

-- exactly one word of the block, word k, is altered
pub record Altered (k : ℕ) (s t : List ℕ) : Type 0 where
  pub place : k < 128
  pub altered : word t k ≡ word s k → ⊥
  pub rest : SameBut k s t

pub word_lt : (s : List ℕ) → Bytes s → (k : ℕ) → word s k < 2 ^ 32
unfolding word
word_lt s b k = omega (arith, b.below (4 * k), b.below (4 * k + 1), b.below (4 * k + 2), b.below (4 * k + 3))

-- ---- the sum

sum_same : (n k : ℕ) {s t : List ℕ} → SameBut k s t → n ≤ k → n ≤ 128 → sum_words n t ≡ sum_words n s
unfolding sum_words
sum_same zero k a l m = refl
sum_same (suc n) k a l m = ap₂ ◌+◌ (sum_same n k a (omega arith) (omega arith)) (a.others n (omega arith) (λ e. omega arith))

-- with word k among them, the two sums differ by that word
sum-moves : (n k : ℕ) {s t : List ℕ} → SameBut k s t → k < n → n ≤ 128 → sum_words n t + word s k ≡ sum_words n s + word t k
unfolding sum_words
sum-moves zero k a l m = absurd (not-suc-le-zero l)
sum-moves (suc n) k {s} {t} a l m =
    elim (dec_lt k n) [
      | yes h ↦ omega (arith, sum-moves n k a h (omega arith), a.others n (omega arith) (λ e. omega arith))
      | no h ↦
          let here : n ≡ k = omega arith in
          omega (arith, sum_same n k a (omega arith) (omega arith), ap (word s) here, ap (word t) here)
    ]

-- ---- the check

-- two sums that differ by a word, modulo 2^32
wraps : (place x y v w c : ℕ) → v < 2 ^ 32 → w < 2 ^ 32 → y + v ≡ x + w → c ≡ (place + x) % 2 ^ 32 → c ≡ (place + y) % 2 ^ 32 → w ≡ v
wraps place x y v w c a b e p q = omega arith

pub altered-unchecked : (place k : ℕ) (s t : List ℕ) → Bytes s → Bytes t → Altered k s t → checked place s ≡ true → checked place t ≡ false
unfolding checked check_of
altered-unchecked place k s t bs bt a right =
    ne_eqb _ _
    (λ wrong.
    elim (dec_lt k 127) [
      | yes l ↦
          a.altered
          (wraps place (sum_words 127 s) (sum_words 127 t) (word s k) (word t k) (word s 127) (word_lt s bs k) (word_lt t bt k)
          (sum-moves 127 k a.rest l (omega arith))
          (eqb-true _ _ right)
          (sym (a.rest.others 127 (omega arith) (λ e. omega arith)) ∙ wrong))
      | no l ↦
          let here : k ≡ 127 = omega (arith, a.place) in
          a.altered
          (ap (word t) here ∙ wrong ∙ ap (λ n. (place + n) % 2 ^ 32) (sum_same 127 k a.rest (omega arith) (omega arith)) ∙ sym (eqb-true _ _ right) ∙ ap (word s) (sym here))
    ])

-- ---- at most one word altered, and the check right: nothing is

-- four bytes on each side that make the same number are the same
digits : (a b c d a' b' c' d' : ℕ) → a < 256 → b < 256 → c < 256 → a' < 256 → b' < 256 → c' < 256
    → a + 256 * b + 65536 * c + 16777216 * d ≡ a' + 256 * b' + 65536 * c' + 16777216 * d' → ((a ≡ a') × (b ≡ b')) × ((c ≡ c') × (d ≡ d'))
digits a b c d a' b' c' d' h1 h2 h3 h4 h5 h6 e = ((omega arith, omega arith), (omega arith, omega arith))

-- so the words of a block fix its bytes
byte-same : (s t : List ℕ) → Bytes s → Bytes t → (k r : ℕ) → word s k ≡ word t k → r < 4 → slice_index s (4 * k + r) ≡ slice_index t (4 * k + r)
unfolding word
byte-same s t bs bt k r e l =
    let all = digits _ _ _ (slice_index s (4 * k + 3)) _ _ _ (slice_index t (4 * k + 3)) (bs.below (4 * k)) (bs.below (4 * k + 1)) (bs.below (4 * k + 2))
    (bt.below (4 * k)) (bt.below (4 * k + 1)) (bt.below (4 * k + 2)) e in
    elim (ℕ_discrete r 0) [
      | yes h ↦ let i : 4 * k + r ≡ 4 * k = omega arith in rw i all.0.0
      | no h ↦
          elim (ℕ_discrete r 1) [
            | yes h1 ↦ rw h1 all.0.1
            | no h1 ↦
                elim (ℕ_discrete r 2) [ yes h2 ↦ rw h2 all.1.0 | no h2 ↦ let i : r ≡ 3 = omega arith in rw i all.1.1 ]
          ]
    ]

pub words-ext : (s t : List ℕ) → Bytes s → Bytes t → length s ≡ 512 → length t ≡ 512 → ((k : ℕ) → k < 128 → word s k ≡ word t k) → s ≡ t
words-ext s t bs bt ls lt e =
    ext_get_or 0 s t (ls ∙ sym lt)
    (λ i l.
    let at : 4 * (i / 4) + i % 4 ≡ i = omega arith in
    rw at at (byte-same s t bs bt (i / 4) (i % 4) (e (i / 4) (omega arith)) (omega arith)))

pub unaltered : (place k : ℕ) (s t : List ℕ) → Bytes s → Bytes t → length s ≡ 512 → length t ≡ 512 → k < 128 → SameBut k s t → checked place s ≡ true → checked place t ≡ true
    → t ≡ s
unaltered place k s t bs bt ls lt l a p q =
    elim (ℕ_discrete (word t k) (word s k)) [
      | yes e ↦
          words-ext t s bt bs lt ls
          (λ j h. elim (ℕ_discrete j k) [ yes here ↦ ap (word t) here ∙ e ∙ ap (word s) (sym here) | no there ↦ a.others j h there ])
      | no e ↦
          let z = altered-unchecked place k s t bs bt (record { place = l; altered = e; rest = a }) p in
          let zz : ◌≡◌ {A = ℕ} 0 1 = cc in absurd (omega arith)
    ]
