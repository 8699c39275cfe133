-- The laws that the functions of src/writing.rt cite: where a turn reads and writes, how counts that were computed stand for their definitions, and the bytes at the end.
-- Rests on Writing and Signature.
use Rattle.std.specs.Prelude.{◌≡◌, List, ◌++◌, ℕ, ◌+◌, ◌*◌, ◌<◌, ◌≤◌, length, get_or}
use Rattle.std.proofs.Common.{sym, ap, subst, ◌∙◌, zero-add as zero-plus, arith}
use Rattle.std.proofs.Math.Decide.{dec_lt}
use Rattle.std.proofs.Math.Arith.{digits_lt}
use Rattle.ground.specs.Fill.{tab, tab-cong}
use Rattle.ground.specs.Place.{row_fits}
use Rattle.ground.specs.Segment.{Segment}
use Rattle.field.specs.Field.{mul}
use Rattle.packing.specs.Packing.{packed, packed_bytes, Bytes}
use Rattle.packing.specs.Written.{Written}
use Rattle.sets.specs.declared.Set.{Set}
use Rattle.sets.specs.Sets.{unknowns, vinegar_count, vinegar_bytes, signature_count, signature_bytes, salt_bytes, work_bytes}
use Rattle.sets.specs.Bounds.{Bounds}
use Rattle.matrix.specs.Matrix.{Matrix}
use Rattle.matrix.specs.Same.{Same}
use Rattle.scheme.specs.Streams.{T12}
use Rattle.scheme.specs.Oil.{Oil, oil_from, oil-from}
use Rattle.rows.specs.Plus.{Plus}
use Rattle.rows.specs.PlusRows.{PlusRows}
use Rattle.tables.specs.Table.{Holds}
use Rattle.tables.specs.Unpacked.{Unpacked}
use Rattle.linear.specs.System.{at}
use Rattle.signing.specs.Signs.{signature_with}
use Rattle.signing.specs.Signature.{solution-lt, signature-cong}
use Rattle.signing.specs.Writing.{oil_row, oil_of, SolutionList, solution-listed, output-is}

-- row y of U, and the row of the table of T12 that it is made of
pub record OilTurn (set : Set) (y : ℕ) : Type 0 where
  pub row : y * set.l + set.l ≤ set.v * set.l * set.l
  pub table : y * (set.o * set.l) + set.o * set.l ≤ set.v * set.l * (set.o * set.l)

pub oil-turn : (set : Set) {y : ℕ} → y < set.v * set.l → OilTurn set y
oil-turn set h = record { row = row_fits set.l h; table = row_fits (set.o * set.l) h }

-- an allowed set has l of at least 2
pub some-l : {set : Set} → Bounds set → 0 < set.l
some-l b = omega (arith, b.limits.l-least)

-- the vinegar stream holds all its elements
pub vinegar-within : (set : Set) {n : ℕ} → n ≡ vinegar_bytes set → vinegar_count set ≤ 2 * n
unfolding vinegar_bytes
vinegar-within set e = omega arith

-- the output has room for the elements and the salt, and the work area for the system
pub output-length : (set : Set) {n m : ℕ} → n ≡ signature_bytes set → m ≡ salt_bytes → n ≡ packed_bytes (signature_count set) + m
unfolding signature_bytes packed_bytes
output-length set e f = omega arith

pub system-within : (set : Set) {n m : ℕ} → n ≡ m → m ≡ work_bytes set → unknowns set * (unknowns set + 1) ≤ n
unfolding work_bytes
system-within set e f = omega arith

-- ---- where the parts of the list of U stand

-- what was computed stands for its definition
pub counted : {n k m : ℕ} → n ≡ k → k ≤ m → n ≤ m
counted e h = omega arith

pub counted-from-start : {n k m : ℕ} → n ≡ k → k ≤ m → 0 + n ≤ m
counted-from-start e h = omega arith

module _ {set : Set} (b : Bounds set) {u : ℕ} where
  -- the vinegar is the first part of a signature's elements
  pub vinegar-first : {n : ℕ} → n ≡ vinegar_count set → signature_count set ≤ u → n ≤ u
  vinegar-first e h = omega (arith, e, h, b.counts.vinegar, b.counts.signature)

  pub vinegar-rows : signature_count set ≤ u → set.v * set.l * set.l ≤ u
  vinegar-rows h = omega (arith, h, b.counts.signature)

  pub oil-rows : unknowns set ≤ u → set.o * set.l * set.l ≤ u
  oil-rows h = omega (arith, h, b.counts.unknowns)

  -- the oil is the last part
  pub oil-last : {n m : ℕ} → n ≡ vinegar_count set → m ≡ unknowns set → signature_count set ≤ u → n + m ≤ u
  oil-last e f h = omega (arith, e, f, h, b.counts.vinegar, b.counts.unknowns, b.counts.signature)

-- ---- the list of U

module _ {set : Set} {private vinegar t : List ℕ} (oil : List ℕ) (table : Holds set.l (set.o * set.l) set.v set.o t (T12 set private)) where
  pub solution-from : {before u₁ u₂ u₃ : List ℕ} {n m : ℕ} → n ≡ vinegar_count set → m ≡ unknowns set → ((e : ℕ) → e < unknowns set → get_or oil e 0 < 16)
      → Unpacked vinegar n before u₁ → PlusRows u₁ 0 (set.v * set.l) set.l (oil_row set.l (set.o * set.l) t oil) u₂
      → Plus u₂ n m (λ c. mul 1 (get_or oil (0 + c) 0)) u₃ → SolutionList set private vinegar (oil_of set.l oil) u₃
  solution-from {before} {u₁} {u₂} {u₃} {n} {m} n-is m-is small p₁ p₂ p₃ =
      solution-listed set private vinegar t oil table small (subst (λ k. Unpacked vinegar k before u₁) n-is p₁) p₂
      (subst (λ k. Plus u₂ k (unknowns set) (λ c. mul 1 (get_or oil (0 + c) 0)) u₃) n-is (subst (λ k. Plus u₂ n k (λ c. mul 1 (get_or oil (0 + c) 0)) u₃) m-is p₃))

-- the list holds elements throughout
pub list-lt : {set : Set} {private vinegar u : List ℕ} {oil : ℕ → Matrix} → SolutionList set private vinegar oil u → Oil set oil → (e : ℕ) → get_or u e 0 < 16
list-lt {set} {private} {vinegar} s a e =
    elim (dec_lt e (signature_count set)) [
      | yes h ↦ rw (s.elements e h) (solution-lt set private vinegar a e h)
      | no h ↦ rw (s.beyond e (omega arith)) (omega arith)
    ]

-- ---- the solution that was read

pub solution-read : (g : List ℕ) {s t : List ℕ} {n m : ℕ} → n ≡ m → Segment s 0 n (λ e. at g n e n) t → (e : ℕ) → e < m → get_or t e 0 ≡ at g m e m
solution-read g {s} {t} n-is p e h =
    let q = subst (λ k. Segment s 0 k (λ e. at g k e k) t) n-is p in
    ap (λ i. get_or t i 0) (sym (zero-plus e)) ∙ q.inside e h

-- a buffer of elements holds an oil choice
pub oil-read : {set : Set} (oil : List ℕ) → 0 < set.l → ((e : ℕ) → e < unknowns set → get_or oil e 0 < 16) → Oil set (oil_of set.l oil)
unfolding unknowns
oil-read oil p small = oil-from p (λ e. get_or oil e 0) small

-- ---- the bytes

pub output-from : (n : ℕ) (list salt : List ℕ) → ((e : ℕ) → get_or list e 0 < 16) → ((e : ℕ) → n ≤ e → get_or list e 0 ≡ 0)
    → {s t out : List ℕ} {count bytes : ℕ} → count ≡ n → bytes ≡ packed_bytes count → Bytes t → length s ≡ packed_bytes n + length salt
    → Written s 0 (2 * bytes) (λ c. get_or list (0 + c) 0) t → Segment t bytes (length salt) (λ k. get_or salt k 0) out
    → out ≡ packed (tab n (λ e. get_or list e 0)) ++ salt
output-from n list salt small zero {s} {t} {out} {count} {bytes} count-is bytes-is b long w g =
    let e : bytes ≡ packed_bytes n = bytes-is ∙ ap packed_bytes count-is in
    output-is n list salt small zero b long (subst (λ k. Written s 0 (2 * k) (λ c. get_or list (0 + c) 0) t) e w)
    (subst (λ k. Segment t k (length salt) (λ i. get_or salt i 0) out) e g)

-- the packed list of U, with the salt, is the signature of the oil that the buffer holds
pub signature-from : (salt oil : List ℕ) {set : Set} {private vinegar u out : List ℕ} {s : ℕ → ℕ} → SolutionList set private vinegar (oil_of set.l oil) u
    → ((e : ℕ) → e < unknowns set → get_or oil e 0 ≡ s e) → out ≡ packed (tab (signature_count set) (λ e. get_or u e 0)) ++ salt
    → out ≡ signature_with set private vinegar salt (oil_from set.l s)
unfolding signature_with unknowns oil_from
signature-from salt oil {set} {private} {vinegar} {u} {s = s} list same e =
    e ∙ ap (λ es. packed es ++ salt) (tab-cong (signature_count set) (λ k. get_or u k 0) _ list.elements)
    ∙ signature-cong set private vinegar salt {oil = oil_of set.l oil} {oil' = oil_from set.l s} (λ k hk. same-matrix k hk)
  where
    same-matrix : (k : ℕ) → k < set.o → Same set.l (oil_of set.l oil k) (oil_from set.l s k)
    same-matrix k hk = record { at = λ r c hr hc. same _ (digits_lt hk (digits_lt hr hc)) }
