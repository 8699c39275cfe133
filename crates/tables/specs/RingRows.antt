-- The table of the powers of S, and rows of elements of F16[S] as sums of multiples of its rows (Algorithm 1).
-- Rests on Table, and on matrix's ring elements.
use Rattle.std.specs.Prelude.{◌≡◌, Bool, true, false, List, ℕ, zero, suc, ◌+◌, ◌*◌, ◌/◌, ◌%◌, ◌<◌, ◌≤◌, eqb, length, get_or}
use Rattle.std.proofs.Common.{sym, ap, ap₂, subst, ◌∙◌, arith}
use Rattle.std.proofs.Math.Arith.{digits_div, digits_mod}
use Rattle.ground.specs.Pick.{pick}
use Rattle.algebra.specs.Sum.{sum, sum-cong}
use Rattle.algebra.specs.Powers.{power, polynomial}
use Rattle.field.specs.Field.{add, mul}
use Rattle.field.specs.Laws.{mul-lt}
use Rattle.field.specs.FieldRing.{field-ring, sum_lt}
use Rattle.matrix.specs.Matrix.{scale_m}
use Rattle.matrix.specs.Same.{sum-entry, mul_m-lt}
use Rattle.matrix.specs.RingElements.{one_m, S, power_s, coefficient, algorithm1}
use Rattle.sets.specs.declared.Set.{Set}
use Rattle.scheme.specs.Streams.{group_of, T12}
use Rattle.rows.specs.Plus.{Plus, plus-cong, plus-sum-none, plus-sum-next}
use Rattle.rows.specs.PlusRows.{PlusRows, rows_none, rows_next, rows-plus}
use Rattle.rows.specs.Tile.{tile}
use Rattle.rows.specs.Zero.{zeros}
use Rattle.tables.specs.Table.{Holds, Filled, filled-rows}

-- sp is the table of the powers of S: rows of l bytes, block (p, 0) is S to the p
abbrev pub Powers : (l : ℕ) (sp : List ℕ) → Type 0
Powers l sp = Holds l l l 1 sp (λ p k. power_s l p)

-- row x of S to the p, from the table
pub power-entry : {l : ℕ} {sp : List ℕ} → Powers l sp → {p x c : ℕ} → p < l → x < l → c < l → get_or sp ((p * l + x) * l + c) 0 ≡ power_s l p x c
unfolding tile
power-entry {l} {sp} h {p} {x} {c} hp hx hc =
    let place : (p * l + x) * l + c ≡ (p * l + x) * l + (0 * l + c) = omega arith in
    ap (λ i. get_or sp i 0) place ∙ (h.same p 0 hp (omega arith)).at x c hx hc

one-lt : (b : Bool) → pick b 1 0 < 16
one-lt true = omega arith
one-lt false = omega arith

-- the powers' entries are elements
pub power-lt : (l p r c : ℕ) → power_s l p r c < 16
unfolding power one_m
power-lt l zero r c = one-lt (eqb (r % l) (c % l))
power-lt l (suc p) r c = mul_m-lt l (S l) (power_s l p) r c

-- ---- a row of one element of F16[S]

-- the term at S to the p of row x of the element that a group of coefficients gives: column c
abbrev pub ring_term : (l : ℕ) (stream : List ℕ) (group : ℕ) (sp : List ℕ) (x p : ℕ) → ℕ → ℕ
ring_term l stream group sp x p c = mul (coefficient l (group_of l stream group) p) (get_or sp ((p * l + x) * l + c) 0)

-- that row up to the power m: column c
abbrev pub ring_sum : (l : ℕ) (stream : List ℕ) (group : ℕ) (sp : List ℕ) (x m : ℕ) → ℕ → ℕ
ring_sum l stream group sp x m c = sum 0 add m (λ p. ring_term l stream group sp x p c)

-- the whole row
unfoldable pub ring_row : (l : ℕ) (stream : List ℕ) (group : ℕ) (sp : List ℕ) (x : ℕ) → ℕ → ℕ
ring_row l stream group sp x c = ring_sum l stream group sp x l c

pub ring-row-lt : (l : ℕ) (stream : List ℕ) (group : ℕ) (sp : List ℕ) (x c : ℕ) → ring_row l stream group sp x c < 16
unfolding ring_row
ring-row-lt l stream group sp x c = sum_lt l (λ p h. mul-lt _ _)

pub ring-row-entry : {l : ℕ} {sp : List ℕ} → Powers l sp → (stream : List ℕ) (group : ℕ) {x c : ℕ} → x < l → c < l
    → ring_row l stream group sp x c ≡ algorithm1 l (group_of l stream group) x c
unfolding ring_row polynomial scale_m
ring-row-entry {l} {sp} h stream group {x} {c} hx hc =
    sum-cong field-ring l (λ p hp. ap (mul (coefficient l (group_of l stream group) p)) (power-entry h hp hx hc))
    ∙ sym (sum-entry l (λ p. scale_m (coefficient l (group_of l stream group) p) (power_s l p)) x c)

-- a loop that adds one term after the other
pub record Ringing (d : List ℕ) (at l : ℕ) (stream : List ℕ) (group : ℕ) (sp : List ℕ) (x p : ℕ) (t : List ℕ) : Type 0 where
  pub upto : p ≤ l
  pub so_far : Plus d at l (ring_sum l stream group sp x p) t

pub ringing-none : {d : List ℕ} {at l : ℕ} {stream : List ℕ} {group : ℕ} {sp : List ℕ} {x : ℕ} → Ringing d at l stream group sp x 0 d
ringing-none {d} {at} {l} {stream} {group} {sp} {x} = record { upto = omega arith; so_far = plus-sum-none (ring_term l stream group sp x) }

pub ringing-next : {d t u : List ℕ} {at l : ℕ} {stream : List ℕ} {group : ℕ} {sp : List ℕ} {x p s from : ℕ} → Ringing d at l stream group sp x p t → p < l
    → s ≡ coefficient l (group_of l stream group) p → from ≡ (p * l + x) * l → Plus t at l (λ c. mul s (get_or sp (from + c) 0)) u
    → Ringing d at l stream group sp x (p + 1) u
ringing-next {l = l} {stream} {group} {sp} {x} w h s-is from_is q = record {
  upto = omega arith;
  so_far = plus-sum-next (ring_term l stream group sp x) w.so_far (plus-cong (λ c hc. ap₂ (λ a b. mul a (get_or sp (b + c) 0)) s-is from_is) q);
}

pub ringing-end : {d t : List ℕ} {at l : ℕ} {stream : List ℕ} {group : ℕ} {sp : List ℕ} {x p : ℕ} → Ringing d at l stream group sp x p t → l ≤ p
    → Plus d at l (ring_row l stream group sp x) t
unfolding ring_row
ringing-end {d} {t} {at} {l} {stream} {group} {sp} {x} w h = subst (λ m. Plus d at l (ring_sum l stream group sp x m) t) (omega (arith, w.upto)) w.so_far

-- ---- rows of such elements side by side, and the private matrix

-- row x of the elements of groups first, first + 1, .. : column z
unfoldable pub rings_row : (l : ℕ) (stream : List ℕ) (first : ℕ) (sp : List ℕ) (x : ℕ) → ℕ → ℕ
rings_row l stream first sp x z = ring_row l stream (first + z / l) sp x (z % l)

-- a loop that adds the row of one element after the other
pub record RingsRowing (d : List ℕ) (at l : ℕ) (stream : List ℕ) (first : ℕ) (sp : List ℕ) (x count k : ℕ) (t : List ℕ) : Type 0 where
  pub upto : k ≤ count
  pub so_far : PlusRows d at k l (λ j. ring_row l stream (first + j) sp x) t

pub rings-none : {d : List ℕ} {at l : ℕ} {stream : List ℕ} {first : ℕ} {sp : List ℕ} {x count : ℕ} → RingsRowing d at l stream first sp x count 0 d
rings-none = record { upto = omega arith; so_far = rows_none }

pub rings-next : {d t u : List ℕ} {at l : ℕ} {stream : List ℕ} {first : ℕ} {sp : List ℕ} {x count k place : ℕ} → RingsRowing d at l stream first sp x count k t
    → k < count → place ≡ at + k * l → Plus t place l (ring_row l stream (first + k) sp x) u → RingsRowing d at l stream first sp x count (k + 1) u
rings-next p h place_is q = record { upto = omega arith; so_far = rows_next p.so_far place_is q }

pub rings-end : {d t : List ℕ} {at l : ℕ} {stream : List ℕ} {first : ℕ} {sp : List ℕ} {x count k : ℕ} → RingsRowing d at l stream first sp x count k t → count ≤ k
    → Plus d at (count * l) (rings_row l stream first sp x) t
unfolding rings_row
rings-end {d} {t} {at} {l} {stream} {first} {sp} {x} p h =
    subst (λ n. Plus d at (n * l) (λ z. ring_row l stream (first + z / l) sp x (z % l)) t) (omega (arith, p.upto)) (rows-plus p.so_far)

-- row y of the private table: row y % l of T12(y / l, 0), T12(y / l, 1), ..
abbrev pub private_row : (set : Set) (private sp : List ℕ) (y : ℕ) → ℕ → ℕ
private_row set private sp y = rings_row set.l private (y / set.l * set.o) sp (y % set.l)

pub private-filled : (set : Set) (private sp : List ℕ) {before d t : List ℕ} → Powers set.l sp → d ≡ zeros (length before)
    → PlusRows d 0 (set.v * set.l) (set.o * set.l) (private_row set private sp) t
    → Filled set.l (set.o * set.l) set.v set.o (T12 set private) before t
unfolding rings_row T12
private-filled set private sp h z p =
    filled-rows z p (omega arith)
    (λ j k r c hj hk hr hc.
    rw (digits_div j hr, digits_mod j hr, digits_div k hc, digits_mod k hc) (ring-row-entry h private (j * set.o + k) hr hc))
    (λ y e hy he. ring-row-lt set.l private (y / set.l * set.o + e / set.l) sp (y % set.l) (e % set.l))
