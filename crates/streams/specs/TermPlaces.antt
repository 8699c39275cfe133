-- The parts of term (i, alpha) lie within the ABQ stream, and its matrix index among the public matrices.
-- Rests on scheme's numbers of blocks and groups, and on the bounds of an allowed set.
use Rattle.std.specs.Prelude.{◌≡◌, true, List, ℕ, ◌+◌, ◌*◌, ◌<◌, ◌≤◌, length}
use Rattle.std.proofs.Common.{mul-le-mul_right, le-leb}
use native.Mathlib.Omega.{arith}
use Rattle.std.proofs.Math.Arith.{digits_lt}
use Rattle.ground.specs.Pick.{both_true}
use Rattle.sets.specs.declared.Set.{Set}
use Rattle.sets.specs.Sets.{most_l, most_row, terms, all_terms, abq_count, abq_bytes}
use Rattle.sets.specs.Bounds.{Limits, Bounds}
use Rattle.matrix.specs.Limits.{size_allowed}
use Rattle.scheme.specs.Streams.{term_number, a_number, b_number, q1_number, q2_number}
use Rattle.scheme.specs.Maps.{matrix_index}
use Rattle.scheme.specs.Entries.{matrix_index-lt}

-- (i, alpha) is a term of an allowed set
pub record TermPlace (set : Set) (i alpha : ℕ) : Type 0 where
  pub bounds : Bounds set
  pub equation : i < set.o
  pub below : alpha < terms set

-- sets and matrix allow the same l
pub size-allowed : {set : Set} → Limits set → size_allowed set.l ≡ true
unfolding size_allowed
size-allowed h = both_true (le-leb _ _ h.l-least) (le-leb _ _ h.l-most)

-- ---- the numbers

-- there are few groups
pub few-groups : {set : Set} → Bounds set → 2 * all_terms set * set.l + 2 * all_terms set ≤ 4 * (most_row * most_l) + 4 * most_row
few-groups b = omega (arith, b.sizes.all-terms, b.sizes.all-terms-l)

module _ {set : Set} {i alpha : ℕ} (t : TermPlace set i alpha) where
  -- the one place where it is told how terms are numbered
  pub a_lt : a_number set i alpha < all_terms set
  unfolding term_number all_terms
  a_lt = digits_lt t.equation t.below

  pub a-within : a_number set i alpha < 2 * all_terms set
  a-within = omega (arith, a_lt)

  pub b-within : b_number set i alpha < 2 * all_terms set
  b-within = omega (arith, a_lt)

  pub q1-within : q1_number set i alpha < 2 * all_terms set * set.l + 2 * all_terms set
  q1-within = omega (arith, a_lt)

  pub q2-within : q2_number set i alpha < 2 * all_terms set * set.l + 2 * all_terms set
  q2-within = omega (arith, a_lt)

  pub index-lt : matrix_index set i alpha < set.o
  index-lt = matrix_index-lt set t.equation alpha

-- ---- their places

module _ {set : Set} (bounds : Bounds set) (abq : List ℕ) (long : length abq ≡ abq_bytes set) where
  abq-whole : abq_count set ≤ 2 * length abq
  unfolding abq_bytes
  abq-whole = omega arith

  pub block_within : {b : ℕ} → b < 2 * all_terms set → (b + 1) * (set.l * set.l) ≤ 2 * length abq
  block_within {b} h =
      let next : b + 1 ≤ 2 * all_terms set = omega arith in
      omega (arith, mul-le-mul_right (set.l * set.l) next, abq-whole, bounds.counts.abq)

  pub group-within : {g : ℕ} → g < 2 * all_terms set * set.l + 2 * all_terms set → (g + 1) * set.l ≤ 2 * length abq
  group-within {g} h =
      let next : g + 1 ≤ 2 * all_terms set * set.l + 2 * all_terms set = omega arith in
      omega (arith, mul-le-mul_right set.l next, abq-whole, bounds.counts.abq)
