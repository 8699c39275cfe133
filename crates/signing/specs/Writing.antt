-- How the signature is written: the list of U, a byte to an element, from the vinegar, the table of T12 and the oil; then its elements packed, and the salt.
-- Rests on rows' Plus, tables' Holds and packing's Written.
use Rattle.std.specs.Prelude.{◌≡◌, length}
use Rattle.std.proofs.Math.Path.{sym, ap, ap₂}
use Rattle.std.proofs.Common.{◌∙◌, zero-add as zero-plus, length-append, get_or-append-add}
use mathlib.Core.List.{List, ◌++◌}
use Prim.Native.Nat.{ℕ, ◌+◌, ◌-◌, ◌*◌, ◌<◌, ◌≤◌}
use Rattle.std.proofs.Math.Decide.{dec_lt}
use native.Mathlib.Omega.{arith}
use Rattle.std.proofs.Math.Arith.{digits_lt}
use Rattle.std.proofs.Math.ListN.{get_or, get_or-append, get_or-eq_default}
use Rattle.std.proofs.Math.Seq.{ext_get_or}
use Rattle.ground.specs.Fill.{tab, length-tab, get_or-tab}
use Rattle.ground.specs.Segment.{Segment}
use Rattle.algebra.specs.Sum.{sum-cong}
use Rattle.field.specs.Field.{add, mul}
use Rattle.field.specs.Laws.{zero-add, one-mul}
use Rattle.field.specs.FieldRing.{field-ring}
use Rattle.packing.specs.Packing.{element, packed, packed_bytes, byte_of, Bytes}
use Rattle.packing.proofs.Laws.{byte-elements, get_or-packed, length-packed}
use Rattle.packing.specs.Written.{Written}
use Rattle.sets.specs.declared.Set.{Set}
use Rattle.sets.specs.Sets.{variables, unknowns, vinegar_count, signature_count}
use Rattle.matrix.specs.Matrix.{Matrix, add_m, mul_m}
use Rattle.matrix.specs.MatrixRing.{matrices}
use Rattle.scheme.specs.Streams.{block_of, T12, vinegar_of}
use Rattle.scheme.specs.Maps.{sum_m}
use Rattle.scheme.specs.Parts.{vinegar-or-oil, change-vinegar, change-oil}
use Rattle.scheme.specs.Entries.{by-entry}
use Rattle.scheme.specs.Regroup.{products-entry}
use Rattle.scheme.specs.Oil.{entry_at, entry-number, joined, joined-vinegar, joined-oil, oil_from}
use Rattle.rows.specs.Plus.{Plus}
use Rattle.rows.specs.PlusRows.{PlusRows}
use Rattle.rows.specs.Combine.{combination}
use Rattle.rows.specs.Tile.{tile-is, sum-blocks}
use Rattle.tables.specs.Table.{Holds}
use Rattle.tables.specs.Unpacked.{Unpacked}
use Rattle.signing.specs.Signs.{solution_of}

-- row y of T12 times the oil: row y of the table t, in rows of w bytes, times the w rows of l bytes of the oil
abbrev pub oil_row : (l w : ℕ) (t oil : List ℕ) → ℕ → ℕ → ℕ
oil_row l w t oil y = combination (λ x. get_or t (y * w + x * 1) 0) oil l 0 w

-- the oil matrices of a buffer that holds their entries, one to a byte
abbrev pub oil_of : (l : ℕ) (oil : List ℕ) → ℕ → Matrix
oil_of l oil = oil_from l (λ e. get_or oil e 0)

-- the buffer holds the entries of U, and zeros behind them
pub record SolutionList (set : Set) (private vinegar : List ℕ) (oil : ℕ → Matrix) (after : List ℕ) : Type 0 where
  pub elements : (e : ℕ) → e < signature_count set → get_or after e 0 ≡ entry_at set.l (solution_of set private vinegar oil) e
  pub beyond : (e : ℕ) → signature_count set ≤ e → get_or after e 0 ≡ 0

module _ (set : Set) (private vinegar t oil : List ℕ) (table : Holds set.l (set.o * set.l) set.v set.o t (T12 set private)) where
  -- a row of T12 times the oil is page 01's sum over k of T12(j,k)·O(k)
  oil-row-entry : (j r c : ℕ) → j < set.v → r < set.l → c < set.l
      → oil_row set.l (set.o * set.l) t oil (j * set.l + r) c
      ≡ sum_m set.o (λ k. mul_m set.l (T12 set private j k) (oil_of set.l oil k)) r c
  unfolding oil_from
  oil-row-entry j r c hj hr hc =
      let l = set.l in
      let w = set.o * set.l in
      sum-blocks field-ring set.o l (λ x. mul (get_or t ((j * l + r) * w + x * 1) 0) (get_or oil ((0 + x) * l + c) 0))
      ∙ sum-cong field-ring set.o (λ k hk. sum-cong field-ring l (λ z hz.
      let t-place : (j * l + r) * w + (k * l + z) * 1 ≡ (j * l + r) * w + (k * l + z) = omega arith in
      let oil-place : (0 + (k * l + z)) * l + c ≡ k * (l * l) + (z * l + c) = omega arith in
      ap₂ mul (ap (λ i. get_or t i 0) t-place ∙ sym (tile-is l w t j k r z) ∙ (table.same j k hj hk).at r z hr hz) (ap (λ i. get_or oil i 0) oil-place)))
      ∙ sym (products-entry l set.o (λ k. T12 set private j k) (oil_of l oil) r c)

  module _ {before u₁ u₂ u₃ : List ℕ} (small : (e : ℕ) → e < unknowns set → get_or oil e 0 < 16)
      (p₁ : Unpacked vinegar (vinegar_count set) before u₁)
      (p₂ : PlusRows u₁ 0 (set.v * set.l) set.l (oil_row set.l (set.o * set.l) t oil) u₂)
      (p₃ : Plus u₂ (vinegar_count set) (unknowns set) (λ c. mul 1 (get_or oil (0 + c) 0)) u₃) where
    at-vinegar : (j : ℕ) → j < set.v → (r c : ℕ) → r < set.l → c < set.l
        → get_or u₃ (j * (set.l * set.l) + (r * set.l + c)) 0 ≡ solution_of set private vinegar (oil_of set.l oil) j r c
    unfolding add_m vinegar_of block_of vinegar_count
    at-vinegar j h r c hr hc =
        let l = set.l in
        let X = joined set (vinegar_of set vinegar) (oil_of l oil) in
        let place : j * (l * l) + (r * l + c) ≡ 0 + ((j * l + r) * l + c) = omega arith in
        let below : j * (l * l) + (r * l + c) < set.v * (l * l) = digits_lt h (digits_lt hr hc) in
        p₃.low (j * (l * l) + (r * l + c)) below
        ∙ ap (λ i. get_or u₂ i 0) place
        ∙ p₂.inside (j * l + r) c (digits_lt h hr) hc
        ∙ ap₂ add (ap (λ i. get_or u₁ i 0) (sym place) ∙ p₁.elements (j * (l * l) + (r * l + c)) below) (oil-row-entry j r c h hr hc)
        ∙ sym (ap (λ M. M r c) (change-vinegar set private X j h
        ∙ ap₂ add_m (joined-vinegar set (vinegar_of set vinegar) (oil_of l oil) j h)
        (sum-cong (matrices l) set.o (λ k hk. ap (mul_m l (T12 set private j k)) (joined-oil set (vinegar_of set vinegar) (oil_of l oil) k)))))

    at-oil : (k : ℕ) → k < set.o → (r c : ℕ) → r < set.l → c < set.l
        → get_or u₃ ((set.v + k) * (set.l * set.l) + (r * set.l + c)) 0 ≡ solution_of set private vinegar (oil_of set.l oil) (set.v + k) r c
    unfolding vinegar_count unknowns oil_from
    at-oil k h r c hr hc =
        let l = set.l in
        let X = joined set (vinegar_of set vinegar) (oil_of l oil) in
        let y = k * (l * l) + (r * l + c) in
        let place : (set.v + k) * (l * l) + (r * l + c) ≡ set.v * (l * l) + y = omega arith in
        let below : y < set.o * (l * l) = digits_lt h (digits_lt hr hc) in
        let rows_before : 0 + set.v * l * l ≤ set.v * (l * l) + y = omega arith in
        let list-before : set.v * (l * l) ≤ set.v * (l * l) + y = omega arith in
        ap (λ i. get_or u₃ i 0) place
        ∙ p₃.inside y below
        ∙ ap₂ add (p₂.high (set.v * (l * l) + y) rows_before ∙ p₁.beyond (set.v * (l * l) + y) list-before)
        (ap (λ i. mul 1 (get_or oil i 0)) (zero-plus y) ∙ one-mul (get_or oil y 0) (small y below))
        ∙ zero-add (get_or oil y 0)
        ∙ sym (ap (λ M. M r c) (change-oil set private X k ∙ joined-oil set (vinegar_of set vinegar) (oil_of l oil) k))

    pub solution-listed : SolutionList set private vinegar (oil_of set.l oil) u₃
    unfolding signature_count vinegar_count unknowns
    solution-listed =
        let l = set.l in
        let U = solution_of set private vinegar (oil_of l oil) in
        record {
          elements = by-entry l (variables set) (λ e. get_or u₃ e 0 ≡ entry_at l U e)
              (λ j r c hj hr hc.
              vinegar-or-oil set.v set.o (λ j. (r c : ℕ) → r < l → c < l → get_or u₃ (j * (l * l) + (r * l + c)) 0 ≡ U j r c) at-vinegar at-oil j hj r c hr hc
              ∙ sym (entry-number l j hr hc U));
          beyond = λ e h. p₃.high e (omega arith) ∙ p₂.high e (omega arith) ∙ p₁.beyond e (omega arith);
        }

-- ---- the bytes

module _ (n : ℕ) (list salt : List ℕ) (small : (e : ℕ) → get_or list e 0 < 16) (zero : (e : ℕ) → n ≤ e → get_or list e 0 ≡ 0) where
  -- the elements of the list packed, a zero in the spare half, then the salt
  pub output-is : {s t out : List ℕ} → Bytes t → length s ≡ packed_bytes n + length salt
      → Written s 0 (2 * packed_bytes n) (λ c. get_or list (0 + c) 0) t → Segment t (packed_bytes n) (length salt) (λ k. get_or salt k 0) out
      → out ≡ packed (tab n (λ e. get_or list e 0)) ++ salt
  unfolding packed_bytes byte_of
  output-is {s} {t} {out} b long w g = ext_get_or 0 out (packed es ++ salt) same-long place
    where
      es : List ℕ
      es = tab n (λ e. get_or list e 0)

      es-long : length (packed es) ≡ packed_bytes n
      es-long = length-packed es ∙ ap packed_bytes (length-tab n (λ e. get_or list e 0))

      same-long : length out ≡ length (packed es ++ salt)
      same-long = omega (arith, g.long, w.long, length-append (packed es) salt, es-long)

      listed : (e : ℕ) → get_or list e 0 ≡ get_or es e 0
      listed e =
          elim (dec_lt e n) [
            | yes h ↦ sym (get_or-tab n (λ e. get_or list e 0) e h)
            | no h ↦ zero e (omega arith) ∙ sym (get_or-eq_default es 0 (omega (arith, length-tab n (λ e. get_or list e 0))))
          ]

      at : (k : ℕ) → k < 2 * packed_bytes n → element t k ≡ get_or es k 0
      at k h = ap (element t) (sym (zero-plus k)) ∙ w.inside k h ∙ ap (λ i. get_or list i 0) (zero-plus k) ∙ listed k

      byte : (j : ℕ) → j < packed_bytes n → get_or t j 0 ≡ get_or (packed es) j 0
      byte j h = omega (arith, byte-elements t b j, at (2 * j) (omega arith), at (2 * j + 1) (omega arith), get_or-packed es j)

      place : (j : ℕ) → j < length out → get_or out j 0 ≡ get_or (packed es ++ salt) j 0
      place j h =
          elim (dec_lt j (packed_bytes n)) [
            | yes l ↦ g.low j l ∙ byte j l ∙ sym (get_or-append (packed es) salt 0 j (omega (arith, es-long)))
            | no l ↦
                let j-is : packed_bytes n + (j - packed_bytes n) ≡ j = omega arith in
                let there : length (packed es) + (j - packed_bytes n) ≡ j = omega (arith, es-long) in
                ap (λ i. get_or out i 0) (sym j-is)
                ∙ g.inside (j - packed_bytes n) (omega (arith, g.long, w.long))
                ∙ sym (get_or-append-add (packed es) salt (j - packed_bytes n) 0)
                ∙ ap (λ i. get_or (packed es ++ salt) i 0) there
          ]
