-- Sums of look-ups in a table of multiples, and what they are: sums of rows, each times its scalar.
-- Rests on Multiples and algebra's sums.
use Rattle.std.specs.Prelude.{◌≡◌, List, ℕ, ◌+◌, ◌*◌, ◌/◌, ◌%◌, ◌<◌, ◌≤◌, get_or}
use Rattle.std.proofs.Common.{sym, ap, ap₂, ◌∙◌, mul-le-mul_right, arith}
use Rattle.std.proofs.Math.Arith.{digits_lt}
use Rattle.algebra.specs.Sum.{sum, sum-none, sum_more, sum-cong}
use Rattle.field.specs.Field.{add, mul}
use Rattle.field.specs.Laws.{mul-lt}
use Rattle.field.specs.FieldRing.{field-ring}
use Rattle.words.specs.Words.{nibble, nibble-word, nibble-add, nibble-sum}
use Rattle.words.specs.Multiples.{Multiples, factor_of, multiple_of, product-halves}

-- row x of the table times s, by two look-ups: the multiples by the lower and by the upper coefficients of s
unfoldable pub looked_up : (table : List ℕ) (x s : ℕ) → ℕ
looked_up table x s = add (get_or table (x * 8 + s % 4) 0) (get_or table (x * 8 + (4 + s / 4 % 4)) 0)

-- the sum, over x below count, of row first + x·stride times the scalar at place + x·step
unfoldable pub lookups : (table scalars : List ℕ) (first stride place step count : ℕ) → ℕ
lookups table scalars first stride place step count = sum 0 add count (λ x. looked_up table (first + x * stride) (get_or scalars (place + x * step) 0))

-- the first x columns of a row of count l by l matrices among the scalars, from place on, times their rows of the table, which begins at first
unfoldable pub column_lookups : (table scalars : List ℕ) (first l place count x : ℕ) → ℕ
column_lookups table scalars first l place count x = sum 0 add x (λ y. lookups table scalars (first + y) l (place + y) (l * l) count)

-- all l columns: the row times the rows of the table from first on
abbrev pub block_lookups : (table scalars : List ℕ) (first l place count : ℕ) → ℕ
block_lookups table scalars first l place count = column_lookups table scalars first l place count l

-- element c of the product's row
unfoldable pub block_sum : (src : List ℕ) (n : ℕ) (scalars : List ℕ) (first l place count : ℕ) → ℕ → ℕ
block_sum src n scalars first l place count c =
    sum 0 add l (λ x. sum 0 add count (λ k. mul (get_or scalars (place + x + k * (l * l)) 0) (get_or src ((first + x + k * l) * n + c) 0)))

-- ---- loops that add one look-up after the other

pub lookups-none : (table scalars : List ℕ) (first stride place step : ℕ) → lookups table scalars first stride place step 0 ≡ 0
unfolding lookups
lookups-none table scalars first stride place step = sum-none field-ring _

pub lookups-next : (table scalars : List ℕ) (first stride place step x : ℕ) {w : ℕ} → w ≡ lookups table scalars first stride place step x
    → add w (looked_up table (first + x * stride) (get_or scalars (place + x * step) 0)) ≡ lookups table scalars first stride place step (x + 1)
unfolding lookups
lookups-next table scalars first stride place step x e =
    ap (λ w. add w (looked_up table (first + x * stride) (get_or scalars (place + x * step) 0))) e ∙ sym (sum_more field-ring x _)

pub columns-none : (table scalars : List ℕ) (first l place count : ℕ) → column_lookups table scalars first l place count 0 ≡ 0
unfolding column_lookups
columns-none table scalars first l place count = sum-none field-ring _

pub columns-next : (table scalars : List ℕ) (first l place count x : ℕ) {w u : ℕ} → w ≡ column_lookups table scalars first l place count x
    → u ≡ lookups table scalars (first + x) l (place + x) (l * l) count → add w u ≡ column_lookups table scalars first l place count (x + 1)
unfolding column_lookups
columns-next table scalars first l place count x e f = ap₂ add e f ∙ sym (sum_more field-ring x _)

-- ---- where the rows and the scalars stand

-- what is looked up stands among a row's eight words
pub low_word : (row s : ℕ) → row * 8 + s % 4 < row * 8 + 8
low_word row s = omega arith

pub high_word : (row s : ℕ) → row * 8 + (4 + s / 4 % 4) < row * 8 + 8
high_word row s = omega arith

pub row_inside : (first l count : ℕ) {x k : ℕ} → x < l → k < count → first + x + k * l < first + count * l
row_inside first l count {x} {k} hx hk = let h : k * l + x < count * l = digits_lt hk hx in omega arith

pub scalar-inside : (place l count : ℕ) {x k : ℕ} → x < l → k < count → place + x + k * (l * l) < place + count * (l * l)
scalar-inside place l count {x} {k} hx hk =
    let some : 1 ≤ l = omega arith in
    let within : x < l * l = omega (arith, mul-le-mul_right l some) in
    let h : k * (l * l) + x < count * (l * l) = digits_lt hk within in
    omega arith

-- ---- what is looked up

lookup : {n count : ℕ} {src table : List ℕ} → Multiples n count src table → (x q c : ℕ) → x < count → q < 8 → c < n
    → nibble (get_or table (x * 8 + q) 0) c ≡ mul (factor_of q) (get_or src (x * n + c) 0)
unfolding multiple_of
lookup {n} {count} {src} m x q c hx hq hc =
    ap (λ w. nibble w c) (m.word x q hx hq) ∙ nibble-word n (λ y. mul (factor_of q) (get_or src (x * n + y) 0)) (λ y. mul-lt _ _) c hc

-- an element of row x times s
product : {n count : ℕ} {src table : List ℕ} → Multiples n count src table → (x s c : ℕ) → x < count → c < n
    → nibble (looked_up table x s) c ≡ mul s (get_or src (x * n + c) 0)
unfolding looked_up
product {n} {count} {src} {table} m x s c hx hc =
    nibble-add c (get_or table (x * 8 + s % 4) 0) (get_or table (x * 8 + (4 + s / 4 % 4)) 0)
    ∙ ap₂ add (lookup m x (s % 4) c hx (omega arith) hc) (lookup m x (4 + s / 4 % 4) c hx (omega arith) hc) ∙ product-halves s (get_or src (x * n + c) 0)

-- the word's elements are those of the product's row
pub block-lookups : {n rows : ℕ} {src table : List ℕ} → Multiples n rows src table → (scalars : List ℕ) (first l place count : ℕ) → first + count * l ≤ rows
    → (c : ℕ) → c < n → nibble (block_lookups table scalars first l place count) c ≡ block_sum src n scalars first l place count c
unfolding column_lookups lookups block_sum
block-lookups {n} {rows} {src} {table} m scalars first l place count fits c hc =
    nibble-sum c l _ ∙ sum-cong field-ring l (λ x hx. nibble-sum c count _ ∙ sum-cong field-ring count (λ k hk. term x k hx hk))
  where
    term : (x k : ℕ) → x < l → k < count
        → nibble (looked_up table (first + x + k * l) (get_or scalars (place + x + k * (l * l)) 0)) c
        ≡ mul (get_or scalars (place + x + k * (l * l)) 0) (get_or src ((first + x + k * l) * n + c) 0)
    term x k hx hk = product m (first + x + k * l) (get_or scalars (place + x + k * (l * l)) 0) c (omega (arith, row_inside first l count hx hk)) hc
