-- F21 and P22 of matrix i as byte tables: what each row gains, and that the tables filled so hold sums of products of blocks.
-- P22 is made as T12ᵗ·P12 + F21·T12, which is page 01's T12ᵗ·F12 + P21·T12 (`key-by-f21`). Rests on tables' Table, Gains, Entries and Sums.
use Rattle.std.specs.Prelude.{◌≡◌, List, ℕ, ◌+◌, ◌*◌, ◌/◌, ◌%◌, ◌<◌, length}
use Rattle.std.proofs.Math.Path.{refl, ap, ap₂}
use Rattle.std.proofs.Common.{sym, ◌∙◌, le_refl, arith}
use Rattle.std.proofs.Math.Arith.{digits_div, digits_mod}
use Rattle.algebra.specs.Sum.{sum-cong, sum-either-way}
use Rattle.field.specs.Field.{add}
use Rattle.field.specs.Laws.{add-lt}
use Rattle.sets.specs.declared.Set.{Set}
use Rattle.matrix.specs.Matrix.{Matrix, add_m, mul_m, transpose}
use Rattle.matrix.specs.MatrixRing.{matrices}
use Rattle.matrix.specs.Same.{same_refl, same-trans, same-equal, same_add, same-mul, same_sum, same-transpose}
use Rattle.scheme.specs.Streams.{block_of, p11_number, p12_number, p21_number, P11, P12, P21, T12}
use Rattle.scheme.specs.Maps.{sum_m, F12, F21, key_p22}
use Rattle.rows.specs.Plus.{Plus}
use Rattle.rows.specs.PlusRows.{PlusRows, rows_then}
use Rattle.rows.specs.Tile.{tile}
use Rattle.rows.specs.Zero.{zeros}
use Rattle.tables.specs.Table.{Holds, holds_same, Filled, filled-rows}
use Rattle.tables.specs.Gains.{blocks_row}
use Rattle.tables.specs.Entries.{blocks-row-entry, blocks-row-lt}
use Rattle.tables.specs.Sums.{left_gain, times_gain, rows_of, times-lt, left_lt, left_at, left-blocks, times-blocks}

-- ---- P22 by F21

-- page 01's P22, made by F21
pub key-by-f21 : (set : Set) (public private : List ℕ) (i j k : ℕ) → key_p22 set public private i j k
    ≡ add_m (sum_m set.v (λ a. mul_m set.l (transpose (T12 set private a j)) (P12 set public i a k)))
    (sum_m set.v (λ b. mul_m set.l (F21 set public private i j b) (T12 set private b k)))
unfolding key_p22 F12 F21
key-by-f21 set public private i j k =
    sum-either-way (matrices set.l) set.v (λ a. transpose (T12 set private a j)) (λ a. P12 set public i a k) (P21 set public i j) (λ b. T12 set private b k) (P11 set public i)

-- ---- the tables

-- a table with rows of o·l bytes holds its own blocks, and so does one with rows of v·l bytes
abbrev pub blocks : Set → List ℕ → ℕ → ℕ → Matrix
blocks set t j k = tile set.l (set.o * set.l) t j k

abbrev pub wide_blocks : Set → List ℕ → ℕ → ℕ → Matrix
wide_blocks set f j k = tile set.l (set.v * set.l) f j k

module _ (set : Set) (public : List ℕ) where
  -- the sums over a of T(a, j)ᵗ times the blocks of the stream that are M(a, k)
  left-sums : (t : List ℕ) (number count : ℕ) (M : ℕ → ℕ → Matrix) (j k : ℕ) → ((a : ℕ) → block_of set.l public (number + a * count + k) ≡ M a k)
      → {r c : ℕ} → r < set.l → c < set.l
      → left_gain set.l set.v t (set.o * set.l) public number count (j * set.l + r) (k * set.l + c)
      ≡ sum_m set.v (λ a. mul_m set.l (transpose (blocks set t a j)) (M a k)) r c
  left-sums t number count M j k e {r} {c} hr hc =
      left-blocks set.l hr hc set.v t (set.o * set.l) public number count j k
      ∙ ap (λ N. N r c) (sum-cong (matrices set.l) set.v (λ a h. ap (mul_m set.l (transpose (blocks set t a j))) (e a)))

  -- ---- F21

  -- what row y of the table of F21 gains from P21: row y % l of P21(i, y / l, ·)
  unfoldable pub p21_row : (i y : ℕ) → ℕ → ℕ
  p21_row i y = blocks_row set.l public (p21_number set i (y / set.l) 0) (y % set.l)

  pub p21-row : (i y : ℕ) {d u : List ℕ} {place n : ℕ} → n ≡ p21_number set i (y / set.l) 0
      → Plus d place (set.v * set.l) (blocks_row set.l public n (y % set.l)) u → Plus d place (set.v * set.l) (p21_row i y) u
  unfolding p21_row
  p21-row i y e p = rw e at p

  -- and, in all, with the sum over a of T(a, y / l)ᵗ · P11(i, a, ·)
  unfoldable pub f21_row : (t : List ℕ) (i y : ℕ) → ℕ → ℕ
  f21_row t i y z = add (p21_row i y z) (left_gain set.l set.v t (set.o * set.l) public (p11_number set i 0 0) set.v y z)

  -- P21 + Tᵗ·P11 for the blocks T of a table
  unfoldable pub f21_of : (T : ℕ → ℕ → Matrix) → ℕ → ℕ → ℕ → Matrix
  f21_of T i k j = add_m (P21 set public i k j) (sum_m set.v (λ a. mul_m set.l (transpose (T a k)) (P11 set public i a j)))

  f21-entry : (t : List ℕ) (i k j r c : ℕ) → r < set.l → c < set.l → f21_row t i (k * set.l + r) (j * set.l + c) ≡ f21_of (blocks set t) i k j r c
  unfolding f21_row p21_row f21_of add_m P11 P21
  f21-entry t i k j r c hr hc =
      ap₂ add
      (ap₂ (λ y x. blocks_row set.l public (p21_number set i y 0) x (j * set.l + c)) (digits_div k hr) (digits_mod k hr)
      ∙ blocks-row-entry set.l public (p21_number set i k 0) r j hc ∙ ap (λ n. block_of set.l public n r c) (omega arith))
      (left-sums t (p11_number set i 0 0) set.v (λ a b. block_of set.l public (p11_number set i a b)) k j (λ a. ap (block_of set.l public) (omega arith)) hr hc)

  pub f21-filled : (t : List ℕ) (i : ℕ) {before d s u : List ℕ} {n : ℕ} → d ≡ zeros (length before) → n ≡ p11_number set i 0 0
      → PlusRows d 0 (set.o * set.l) (set.v * set.l) (p21_row i) s
      → PlusRows s 0 (set.o * set.l) (set.v * set.l) (left_gain set.l set.v t (set.o * set.l) public n set.v) u
      → Filled set.l (set.v * set.l) set.o set.v (f21_of (blocks set t) i) before u
  unfolding f21_row p21_row
  f21-filled t i z e p q =
      filled-rows {f = f21_row t i} z (rows_then p (left_at set.l set.v t (set.o * set.l) public set.v e q)) (le_refl _)
      (λ k j r c hk hj hr hc. f21-entry t i k j r c hr hc) (λ y e hy he. add-lt _ _ (blocks-row-lt _ _ _ _ _) (left_lt _ _ _ _ _ _ _ _ _))

  -- ---- P22

  -- what row y of the table of P22 gains: that of the sum over a of T(a, y / l)ᵗ · P12(i, a, ·), then that of the table of F21 times T
  unfoldable pub p22_row : (t f : List ℕ) (i y : ℕ) → ℕ → ℕ
  p22_row t f i y z =
      add (left_gain set.l set.v t (set.o * set.l) public (p12_number set i 0 0) set.o y z)
      (times_gain (rows_of (set.v * set.l) f) (set.v * set.l) (rows_of (set.o * set.l) t) y z)

  -- Tᵗ·P12 + F·T for the blocks T and F of two tables
  unfoldable pub p22_of : (T F : ℕ → ℕ → Matrix) → ℕ → ℕ → ℕ → Matrix
  p22_of T F i j k =
      add_m (sum_m set.v (λ a. mul_m set.l (transpose (T a j)) (P12 set public i a k))) (sum_m set.v (λ b. mul_m set.l (F j b) (T b k)))

  -- an entry of the table of F21, by its block
  wide-entry : (f : List ℕ) (j b r x : ℕ) → rows_of (set.v * set.l) f (j * set.l + r) (b * set.l + x) ≡ wide_blocks set f j b r x
  unfolding rows_of tile
  wide-entry f j b r x = refl

  p22-entry : (t f : List ℕ) (i j k r c : ℕ) → r < set.l → c < set.l → p22_row t f i (j * set.l + r) (k * set.l + c) ≡ p22_of (blocks set t) (wide_blocks set f) i j k r c
  unfolding p22_row p22_of add_m P12
  p22-entry t f i j k r c hr hc =
      ap₂ add
      (left-sums t (p12_number set i 0 0) set.o (λ a b. block_of set.l public (p12_number set i a b)) j k (λ a. ap (block_of set.l public) (omega arith)) hr hc)
      (times-blocks set.l hr hc (rows_of (set.v * set.l) f) set.v (set.o * set.l) t j k (wide_blocks set f j) (λ b x hb hx. wide-entry f j b r x))

  pub p22-filled : (t f : List ℕ) (i : ℕ) {before d s u : List ℕ} {n : ℕ} → d ≡ zeros (length before) → n ≡ p12_number set i 0 0
      → PlusRows d 0 (set.o * set.l) (set.o * set.l) (left_gain set.l set.v t (set.o * set.l) public n set.o) s
      → PlusRows s 0 (set.o * set.l) (set.o * set.l) (times_gain (rows_of (set.v * set.l) f) (set.v * set.l) (rows_of (set.o * set.l) t)) u
      → Filled set.l (set.o * set.l) set.o set.o (p22_of (blocks set t) (wide_blocks set f) i) before u
  unfolding p22_row
  p22-filled t f i z e p q =
      filled-rows {f = p22_row t f i} z (rows_then (left_at set.l set.v t (set.o * set.l) public set.o e p) q) (le_refl _)
      (λ j k r c hj hk hr hc. p22-entry t f i j k r c hr hc) (λ y e hy he. add-lt _ _ (left_lt _ _ _ _ _ _ _ _ _) (times-lt _ _ _ _ _))

  -- ---- with the private matrix in the first table

  module _ (private : List ℕ) (i : ℕ) {t : List ℕ} (hT : Holds set.l (set.o * set.l) set.v set.o t (T12 set private)) where
    pub f21-holds : {f : List ℕ} → Holds set.l (set.v * set.l) set.o set.v f (f21_of (blocks set t) i)
        → Holds set.l (set.v * set.l) set.o set.v f (F21 set public private i)
    unfolding f21_of F21
    f21-holds h = holds_same (λ k j hk hj. same_add same_refl (same_sum set.v (λ a ha. same-mul (same-transpose (hT.same a k ha hk)) same_refl))) h

    pub p22-holds : {f k : List ℕ} → Holds set.l (set.v * set.l) set.o set.v f (F21 set public private i)
        → Holds set.l (set.o * set.l) set.o set.o k (p22_of (blocks set t) (wide_blocks set f) i)
        → Holds set.l (set.o * set.l) set.o set.o k (key_p22 set public private i)
    unfolding p22_of
    p22-holds hF h =
        holds_same
        (λ j k hj hk.
        same-trans
        (same_add (same_sum set.v (λ a ha. same-mul (same-transpose (hT.same a j ha hj)) same_refl))
        (same_sum set.v (λ b hb. same-mul (hF.same j b hj hb) (hT.same b k hb hk))))
        (same-equal (sym (key-by-f21 set public private i j k))))
        h
