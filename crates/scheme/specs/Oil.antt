-- Oil choices, the oil that solves, and the exact redo (page 01, "Keys, signing, verdict"), entry by entry: i, k < o and r, c < l.
-- "If only all-zero oil is sent to zero, the one oil choice that makes the central map equal the target is found. Otherwise redo."
-- An oil choice is also a row of o·l² unknowns: unknown e = k·l² + (a·l + b) is entry (a, b) of oil matrix k.
-- That there is at most one such choice, and what a redo says, stands in proofs/Oil.
-- Rests on Linear: the central map is the vinegar part plus the linear part, and the linear part is additive.
use Rattle.std.specs.Prelude.{◌≡◌, ◌↔◌, List, ℕ, ◌+◌, ◌-◌, ◌*◌, ◌/◌, ◌%◌, ◌<◌, ltb}
use Rattle.std.proofs.Common.{sym, ◌∙◌, mul-le-mul, mod-lt, div-lt_iff_lt-mul, div-add-mod', arith, lt-ltb, le-ltb}
use Rattle.std.proofs.Math.Path.{ap, fun_ext}
use Rattle.std.proofs.Math.Nat.{add-sub_cancel_left, mod-mod_of_dvd, dvd-mul_left}
use Rattle.std.proofs.Math.Arith.{digits_lt, digits_div, digits_mod}
use Rattle.ground.specs.Pick.{pick}
use Rattle.algebra.specs.Ring.{add-move-left, add-self-left}
use Rattle.field.specs.Field.{add}
use Rattle.field.specs.FieldRing.{field-ring}
use Rattle.packing.specs.Packing.{element}
use Rattle.sets.specs.declared.Set.{Set}
use Rattle.matrix.specs.Matrix.{Matrix, add_m}
use Rattle.scheme.specs.Streams.{block_of, target_of}
use Rattle.scheme.specs.Maps.{central_map, vinegar_part, linear_part}
use Rattle.scheme.specs.Linear.{central_map-split}

-- X: the first v matrices are the vinegar, the others the oil
unfoldable pub joined : Set → (vinegar oil : ℕ → Matrix) → ℕ → Matrix
joined set vinegar oil j = pick (ltb j set.v) (vinegar j) (oil (j - set.v))

-- entry number e of a row of matrices
abbrev pub entry_at : (l : ℕ) (M : ℕ → Matrix) → ℕ → ℕ
entry_at l M e = M (e / (l * l)) (e % (l * l) / l) (e % l)

-- the oil matrices whose entries are the unknowns s
unfoldable pub oil_from : (l : ℕ) (s : ℕ → ℕ) → ℕ → Matrix
oil_from l s k a b = s (k * (l * l) + (a * l + b))

-- an oil choice: its entries are elements
pub record Oil (set : Set) (oil : ℕ → Matrix) : Type 0 where
  pub element : (k r c : ℕ) → k < set.o → r < set.l → c < set.l → oil k r c < 16

-- all-zero oil
pub record AllZero (set : Set) (oil : ℕ → Matrix) : Type 0 where
  pub zero : (k r c : ℕ) → k < set.o → r < set.l → c < set.l → oil k r c ≡ 0

module _ (set : Set) (public abq private : List ℕ) (vinegar : ℕ → Matrix) where
  -- the linear part sends the oil to zero
  pub record SentToZero (oil : ℕ → Matrix) : Type 0 where
    pub zero : (i r c : ℕ) → i < set.o → r < set.l → c < set.l → linear_part set public abq private vinegar oil i r c ≡ 0

  -- the oil makes the central map equal the target
  pub record Solves (target : List ℕ) (oil : ℕ → Matrix) : Type 0 where
    pub equal : (i r c : ℕ) → i < set.o → r < set.l → c < set.l
        → central_map set public abq private (joined set vinegar oil) i r c ≡ target_of set target i r c

  -- the same, of the linear part: it equals the vinegar part plus the target
  pub record LinearSolves (target : List ℕ) (oil : ℕ → Matrix) : Type 0 where
    pub equal : (i r c : ℕ) → i < set.o → r < set.l → c < set.l
        → linear_part set public abq private vinegar oil i r c ≡ add (vinegar_part set public abq vinegar i r c) (target_of set target i r c)

  -- only all-zero oil is sent to zero
  pub record OnlyZero : Type 0 where
    pub only : (oil : ℕ → Matrix) → Oil set oil → SentToZero oil → AllZero set oil

  -- some oil choice, not all zero, is sent to zero
  pub record Redo : Type 0 where
    pub choice : ℕ → Matrix
    pub oil : Oil set choice
    pub sent : SentToZero choice
    pub nonzero : AllZero set choice → ⊥

-- ---- X, by its parts

module _ (set : Set) (vinegar oil : ℕ → Matrix) where
  pub joined-vinegar : (j : ℕ) → j < set.v → joined set vinegar oil j ≡ vinegar j
  unfolding joined
  joined-vinegar j h = rw (lt-ltb j set.v h)

  pub joined-oil : (k : ℕ) → joined set vinegar oil (set.v + k) ≡ oil k
  unfolding joined
  joined-oil k = rw (le-ltb (set.v + k) set.v (omega arith)) (ap oil (add-sub_cancel_left set.v k))

-- ---- entries by number

pub square-pos : {l : ℕ} → 0 < l → 0 < l * l
square-pos {l} p = omega (arith, mul-le-mul p p)

pub last-digit : (e l : ℕ) → e % (l * l) % l ≡ e % l
last-digit e l = mod-mod_of_dvd l e (dvd-mul_left l l)

module _ (l : ℕ) where
  -- the digits of the number of entry (r, c) of matrix k
  module _ (k : ℕ) {r c : ℕ} (hr : r < l) (hc : c < l) where
    number-matrix : (k * (l * l) + (r * l + c)) / (l * l) ≡ k
    number-matrix = digits_div k (digits_lt hr hc)

    number-row : (k * (l * l) + (r * l + c)) % (l * l) / l ≡ r
    number-row = ap (λ x. x / l) (digits_mod k (digits_lt hr hc)) ∙ digits_div r hc

    number-column : (k * (l * l) + (r * l + c)) % l ≡ c
    number-column = sym (last-digit _ l) ∙ ap (λ x. x % l) (digits_mod k (digits_lt hr hc)) ∙ digits_mod r hc

    pub entry-number : (M : ℕ → Matrix) → entry_at l M (k * (l * l) + (r * l + c)) ≡ M k r c
    entry-number M = rw (number-matrix, number-row, number-column)

  number_is : (e : ℕ) → e / (l * l) * (l * l) + (e % (l * l) / l * l + e % l) ≡ e
  number_is e =
      ap (λ x. e / (l * l) * (l * l) + (e % (l * l) / l * l + x)) (sym (last-digit e l))
      ∙ ap (λ x. e / (l * l) * (l * l) + x) (div-add-mod' (e % (l * l)) l) ∙ div-add-mod' e (l * l)

  -- what holds of every matrix, row and column holds of every entry number, and back
  pub by_number : (n : ℕ) (P : ℕ → ℕ → ℕ → Type 0) → 0 < l
      → ((k r c : ℕ) → k < n → r < l → c < l → P k r c) ↔ ((e : ℕ) → e < n * (l * l) → P (e / (l * l)) (e % (l * l) / l) (e % l))
  by_number n P p = (
    (λ h e he. h _ _ _ ((div-lt_iff_lt-mul (square-pos p)).1 he) ((div-lt_iff_lt-mul p).1 (mod-lt e (square-pos p))) (mod-lt e p)),
    (λ h k r c hk hr hc. rw (number-matrix k hr hc, number-row k hr hc, number-column k hr hc) at (h (k * (l * l) + (r * l + c)) (digits_lt hk (digits_lt hr hc)))),
  )

  -- a packed stream's blocks, by number, are its elements
  pub entry-block : (s : List ℕ) (e : ℕ) → entry_at l (block_of l s) e ≡ element s e
  unfolding block_of
  entry-block s e = ap (element s) (number_is e)

  -- the oil made from unknowns has them as its entries

  entry-oil_from : (s : ℕ → ℕ) (e : ℕ) → entry_at l (oil_from l s) e ≡ s e
  unfolding oil_from
  entry-oil_from s e = ap s (number_is e)

  pub entries-oil_from : (s : ℕ → ℕ) → entry_at l (oil_from l s) ≡ s
  entries-oil_from s = fun_ext (entry-oil_from s)

-- an oil choice, by its unknowns

module _ {set : Set} (p : 0 < set.l) where
  pub oil-unknowns : {oil : ℕ → Matrix} → Oil set oil ↔ ((e : ℕ) → e < set.o * (set.l * set.l) → entry_at set.l oil e < 16)
  oil-unknowns {oil} = (
    (λ h. (by_number set.l set.o (λ k r c. oil k r c < 16) p).0 h.element),
    (λ h. record { element = (by_number set.l set.o (λ k r c. oil k r c < 16) p).1 h }),
  )

  pub zero-unknowns : {oil : ℕ → Matrix} → AllZero set oil ↔ ((e : ℕ) → e < set.o * (set.l * set.l) → entry_at set.l oil e ≡ 0)
  zero-unknowns {oil} = (
    (λ h. (by_number set.l set.o (λ k r c. oil k r c ≡ 0) p).0 h.zero),
    (λ h. record { zero = (by_number set.l set.o (λ k r c. oil k r c ≡ 0) p).1 h }),
  )

  pub oil-from : (s : ℕ → ℕ) → ((e : ℕ) → e < set.o * (set.l * set.l) → s e < 16) → Oil set (oil_from set.l s)
  oil-from s h = oil-unknowns.1 (λ e l. rw (entry-oil_from set.l s e) (h e l))

  pub zero-from : (s : ℕ → ℕ) → AllZero set (oil_from set.l s) → (e : ℕ) → e < set.o * (set.l * set.l) → s e ≡ 0
  zero-from s z e h = sym (entry-oil_from set.l s e) ∙ zero-unknowns.0 z e h

-- ---- solutions

module _ {set : Set} {public abq private : List ℕ} {vinegar : ℕ → Matrix} where
  module _ {target : List ℕ} where
    -- an oil choice solves exactly when the linear part equals the vinegar part plus the target
    pub solves-linear : {oil : ℕ → Matrix} → Solves set public abq private vinegar target oil ↔ LinearSolves set public abq private vinegar target oil
    unfolding add_m
    solves-linear {oil} = (
      (λ s. record { equal = λ i r c hi hr hc. add-move-left field-ring (sym (parted i r c) ∙ s.equal i r c hi hr hc) }),
      (λ s. record { equal = λ i r c hi hr hc. parted i r c ∙ ap (add _) (s.equal i r c hi hr hc) ∙ add-self-left field-ring _ _ }),
    )
      where
        parted : (i r c : ℕ)
            → central_map set public abq private (joined set vinegar oil) i r c
            ≡ add (vinegar_part set public abq vinegar i r c) (linear_part set public abq private vinegar oil i r c)
        parted i r c = ap (λ M. M r c) (central_map-split set public abq private (joined-vinegar set vinegar oil) (λ k h. joined-oil set vinegar oil k) i)

  -- redo and uniqueness exclude each other
  pub redo-exclusive : Redo set public abq private vinegar → OnlyZero set public abq private vinegar → ⊥
  redo-exclusive d z = d.nonzero (z.only d.choice d.oil d.sent)
