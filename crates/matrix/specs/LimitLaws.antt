-- What the tests of Limits say: a row of tests holds where each does, and fails where one does.
-- Rests on Limits and Block.
use Rattle.std.specs.Prelude.{◌≡◌, refl, Bool, true, false, ℕ, ◌+◌, ◌*◌, ◌/◌, ◌%◌, ◌<◌, ◌≤◌, ltb}
use Rattle.std.proofs.Common.{not-suc-le-zero, arith, lt-ltb, le-ltb, ltb-true}
use Rattle.ground.specs.Tests.{every-at, every_true, every-fails}
use Rattle.sets.specs.Sets.{least_l, most_l}
use Rattle.sets.specs.Bounds.{from-to}
use Rattle.matrix.specs.Matrix.{Matrix}
use Rattle.matrix.specs.Block.{inside, inside-row, inside-column, cell, cell_at, block_bytes, stride}
use Rattle.matrix.specs.Limits.{size_allowed, entries_allowed, coefficients_allowed}

-- ---- sizes

pub allowed-least : (l : ℕ) → size_allowed l ≡ true → least_l ≤ l
unfolding size_allowed
allowed-least l t = (from-to {least = least_l} {most = most_l} t).0

pub allowed-most : (l : ℕ) → size_allowed l ≡ true → l ≤ most_l
unfolding size_allowed
allowed-most l t = (from-to {least = least_l} {most = most_l} t).1

-- ---- coefficients

pub coefficients-pass : (l : ℕ) (a : ℕ → ℕ) → ((k : ℕ) → k < l → a k < 16) → coefficients_allowed l a ≡ true
unfolding coefficients_allowed
coefficients-pass l a h = every_true l _ (λ k hk. lt-ltb (a k) 16 (h k hk))

pub coefficients-fail : (l : ℕ) (a : ℕ → ℕ) (k : ℕ) → k < l → 15 < a k → coefficients_allowed l a ≡ false
unfolding coefficients_allowed
coefficients-fail l a k hk h = every-fails l _ k hk (le-ltb (a k) 16 h)

pub coefficients-lt : (l : ℕ) (a : ℕ → ℕ) → coefficients_allowed l a ≡ true → (k : ℕ) → k < l → a k < 16
unfolding coefficients_allowed
coefficients-lt l a t k h = ltb-true (a k) 16 (every-at l (λ k. ltb (a k) 16) t k h)

-- ---- entries

pub entries-pass : (l : ℕ) (M : Matrix) → ((r c : ℕ) → r < l → c < l → M r c < 16) → entries_allowed l M ≡ true
unfolding entries_allowed
entries-pass l M h = every_true l _ (λ r hr. every_true l _ (λ c hc. lt-ltb (M r c) 16 (h r c hr hc)))

entries-fail : (l : ℕ) (M : Matrix) (r c : ℕ) → r < l → c < l → 15 < M r c → entries_allowed l M ≡ false
unfolding entries_allowed
entries-fail l M r c hr hc h = every-fails l _ r hr (every-fails l _ c hc (le-ltb (M r c) 16 h))

-- the same, asked of the block's bytes
pub cells-pass : (l : ℕ) (M : Matrix) → l ≤ stride → ((e : ℕ) → e < block_bytes → cell l M e < 16) → entries_allowed l M ≡ true
cells-pass l M h below = entries-pass l M (λ r c hr hc. rw (cell_at l M r c h hr hc) at (below (r * stride + c) (omega arith)))

pub cells-fail : (l : ℕ) (M : Matrix) (e : ℕ) → 15 < cell l M e → entries_allowed l M ≡ false
unfolding cell
cells-fail l M e h = by (inside l e) refl
  where
    by : (b : Bool) → inside l e ≡ b → entries_allowed l M ≡ false
    by true t = entries-fail l M (e / stride) (e % stride) (inside-row l e t) (inside-column l e t) (rw t at h)
    by false t = absurd (not-suc-le-zero (rw t at h))
