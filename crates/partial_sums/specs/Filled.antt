-- What the tables of the left sums, the right sums and the power sums hold, over the tables x and t; and that this is the scheme's, where x and t hold
-- the powers of S times the vinegar, and T12. Rests on LeftRight and scheme's sums by powers.
use Rattle.std.specs.Prelude.{◌≡◌, List, ℕ, ◌+◌, ◌*◌, ◌/◌, ◌%◌, ◌<◌, ◌≤◌, length, get_or}
use Rattle.std.proofs.Common.{sym, ap, ◌∙◌, arith}
use Rattle.std.proofs.Math.Arith.{digits_lt, digits_div, digits_mod}
use Rattle.rows.specs.Zero.{zeros, length-zeros}
use Rattle.rows.specs.PlusRows.{PlusRows}
use Rattle.rows.specs.Tile.{tile}
use Rattle.sets.specs.declared.Set.{Set}
use Rattle.matrix.specs.Matrix.{Matrix}
use Rattle.matrix.specs.Same.{Same, same_refl, same-trans, same-equal, same_sum, same-mul, same_add, same-transpose}
use Rattle.scheme.specs.Streams.{P11, T12}
use Rattle.scheme.specs.Regroup.{power_times, power_sums, power_sums-by-right}
use Rattle.scheme.specs.Coefficients.{left_p11, right_p11, left_power, right_power, left-power-sums, right-power-sums}
use Rattle.tables.specs.Table.{Holds, cleared}
use Rattle.tables.specs.Sums.{HasRows, zero-rows-from}
use Rattle.partial_sums.specs.LeftRight.{right_row, sums_row, left_row, right_p11_from, left_p11_from, sums_from, right_from, left_from, sums-blocks, right-blocks, left-row-blocks}

-- block row i·n + j of a table in rows of w bytes is M i j, for i < o and j < n; the buffer keeps its length, and is zero behind the table
pub record Stacked (l w o n m : ℕ) (M : ℕ → ℕ → ℕ → Matrix) (before after : List ℕ) : Type 0 where
  pub long : length after ≡ length before
  pub same : (i j k : ℕ) → i < o → j < n → k < m → Same l (tile l w after (i * n + j) k) (M i j k)
  pub beyond : (e : ℕ) → o * (n * l) * w ≤ e → get_or after e 0 ≡ 0

pub stacked : {l w o n m : ℕ} {M : ℕ → ℕ → ℕ → Matrix} (g : ℕ → ℕ → ℕ → ℕ) (before : List ℕ) {d t : List ℕ} → d ≡ zeros (length before) → m * l ≤ w
    → PlusRows d 0 (o * (n * l)) w (λ y. g (y / (n * l)) (y % (n * l))) t
    → ((i j k r c : ℕ) → r < l → c < l → g i (j * l + r) (k * l + c) ≡ M i j k r c) → Stacked l w o n m M before t
unfolding tile
stacked {l} {w} {o} {n} {m} {M} g before {d} {t} z fits p e = record {
  long = p.long ∙ ap length z ∙ length-zeros (length before);
  same = λ i j k hi hj hk. record {
    at = λ r c hr hc.
        let row : ((i * n + j) * l + r) * w + (k * l + c) ≡ (i * (n * l) + (j * l + r)) * w + (k * l + c) = omega arith in
        let below : j * l + r < n * l = digits_lt hj hr in
        let column : k * l + c < w = omega (arith, digits_lt hk hc) in
        let all : HasRows (o * (n * l)) w (λ y. g (y / (n * l)) (y % (n * l))) t = zero-rows-from before z p in
        let here = all.at (i * (n * l) + (j * l + r)) (k * l + c) (digits_lt hi below) column in
        ap (λ q. get_or t q 0) row ∙ rw (digits_div i below, digits_mod i below) at here ∙ e i j k r c hr hc;
  };
  beyond = λ q h. p.high q (omega arith) ∙ cleared before z q;
}

module _ (set : Set) (public x : List ℕ) where
  -- the left sums: block (i'·l + a, k)
  abbrev pub LeftHolds : (t before after : List ℕ) → Type 0
  LeftHolds t = Stacked set.l (set.o * set.l) set.o set.l set.o (λ i a k. left_from set public x t i k a)

  -- the right sums: block (i'·o + k, b)
  abbrev pub RightHolds : (t before after : List ℕ) → Type 0
  RightHolds t = Stacked set.l (set.l * set.l) set.o set.o set.l (right_from set public x t)

  -- the vinegar's power sums: block (i'·l + a, b)
  abbrev pub SumsHold : (before after : List ℕ) → Type 0
  SumsHold = Stacked set.l (set.l * set.l) set.o set.l set.l (sums_from set public x)

  pub left-filled : (t before : List ℕ) {d after : List ℕ} → d ≡ zeros (length before)
      → PlusRows d 0 (set.o * (set.l * set.l)) (set.o * set.l) (λ y. left_row set public x t (y / (set.l * set.l)) (y % (set.l * set.l))) after → LeftHolds t before after
  left-filled t before z p = stacked (left_row set public x t) before z (omega arith) p (λ i a k r c hr hc. left-row-blocks set public x i hr hc t a k)

  pub right-filled : (t before : List ℕ) {d after : List ℕ} → d ≡ zeros (length before)
      → PlusRows d 0 (set.o * (set.o * set.l)) (set.l * set.l) (λ y. right_row set public x t (y / (set.o * set.l)) (y % (set.o * set.l))) after → RightHolds t before after
  right-filled t before z p = stacked (right_row set public x t) before z (omega arith) p (λ i k b r c hr hc. right-blocks set public x i hr hc t k b)

  pub sums-filled : (before : List ℕ) {d after : List ℕ} → d ≡ zeros (length before)
      → PlusRows d 0 (set.o * (set.l * set.l)) (set.l * set.l) (λ y. sums_row set public x (y / (set.l * set.l)) (y % (set.l * set.l))) after → SumsHold before after
  sums-filled before z p = stacked (sums_row set public x) before z (omega arith) p (λ i a b r c hr hc. sums-blocks set public x i hr hc a b)

-- ---- the scheme's sums, where x holds the powers of S times the vinegar, and t holds T12

module _ (set : Set) (public : List ℕ) (x : List ℕ) (vinegar : ℕ → Matrix)
    (hx : Holds set.l (set.l * set.l) set.v set.l x (λ j b. power_times set.l b (vinegar j))) where
  right-p11-scheme : (i u b : ℕ) → b < set.l → Same set.l (right_p11_from set public x i u b) (right_p11 set public vinegar i u b)
  unfolding right_p11_from right_p11
  right-p11-scheme i u b hb = same_sum set.v (λ j hj. same-mul same_refl (hx.same j b hj hb))

  left-p11-scheme : (i u a : ℕ) → a < set.l → Same set.l (left_p11_from set public x i u a) (left_p11 set public vinegar i u a)
  unfolding left_p11_from left_p11
  left-p11-scheme i u a ha = same_sum set.v (λ j hj. same-mul (same-transpose (hx.same j a hj ha)) same_refl)

  pub sums-scheme : (i a b : ℕ) → a < set.l → b < set.l → Same set.l (sums_from set public x i a b) (power_sums set.l set.v (P11 set public i) vinegar a b)
  unfolding sums_from right_p11
  sums-scheme i a b ha hb =
      same-trans (same_sum set.v (λ j hj. same-mul (same-transpose (hx.same j a hj ha)) (right-p11-scheme i j b hb)))
      (same-equal (sym (power_sums-by-right set.l set.v (P11 set public i) vinegar a b)))

  module _ (private t : List ℕ) (ht : Holds set.l (set.o * set.l) set.v set.o t (T12 set private)) where
    pub right-scheme : (i k b : ℕ) → k < set.o → b < set.l → Same set.l (right_from set public x t i k b) (right_power set public private vinegar i k b)
    unfolding right_from
    right-scheme i k b hk hb =
        same-trans (same_add (same_sum set.v (λ j hj. same-mul same_refl (hx.same j b hj hb)))
        (same_sum set.v (λ u hu. same-mul (same-transpose (ht.same u k hu hk)) (right-p11-scheme i u b hb))))
        (same-equal (sym (right-power-sums set public private vinegar i k b)))

    pub left-scheme : (i k a : ℕ) → k < set.o → a < set.l → Same set.l (left_from set public x t i k a) (left_power set public private vinegar i k a)
    unfolding left_from
    left-scheme i k a hk ha =
        same-trans (same_add (same_sum set.v (λ j hj. same-mul (same-transpose (hx.same j a hj ha)) same_refl))
        (same_sum set.v (λ u hu. same-mul (left-p11-scheme i u a ha) (ht.same u k hu hk))))
        (same-equal (sym (left-power-sums set public private vinegar i k a)))
