-- Students' errors 1, 2 and 5 (page 01, "Errors students make"), as statements: a wrong map, and small inputs of an allowed set, with exact lengths and nothing
-- refused, on which it gives another value. The wrong values and the right ones are computed from the definitions. Rests on Maps and Verdict.
use Rattle.std.specs.Prelude.{◌≡◌, refl, List, [], ◌∷◌, ◌++◌, ℕ, ◌<◌, replicate}
use Rattle.std.proofs.Math.Path.{ap}
use native.Mathlib.Omega.{arith}
use Rattle.ground.specs.Fill.{tab}
use Rattle.ground.specs.Answers.{first}
use Rattle.algebra.specs.Sum.{sum}
use Rattle.algebra.specs.Map.{value, value-cong}
use Rattle.algebra.specs.Powers.{power, polynomial}
use Rattle.field.specs.Field.{add, mul, times}
use Rattle.packing.specs.Packing.{element, half, packed_bytes, byte_of, packed}
use Rattle.sets.specs.declared.Set.{Set}
use Rattle.sets.specs.Sets.{allowed_set, terms, all_terms, variables, public_count, abq_count, target_count, key_count, signature_count}
use Rattle.sets.specs.Sets.{public_bytes, abq_bytes, target_bytes, key_bytes, signature_bytes}
use Rattle.refusals.specs.Rules.{verdict_rules}
use Rattle.matrix.specs.Matrix.{Matrix, add_m, mul_m, transpose, scale_m}
use Rattle.matrix.specs.MatrixRing.{matrices}
use Rattle.matrix.specs.RingElements.{S, one_m, coefficient}
use Rattle.matrix.specs.Determinant.{det, minor, skip}
use Rattle.matrix.specs.Invertible.{invertible, shift, first_from, shift_of, can_be_invertible, algorithm2}
use Rattle.scheme.specs.Streams.{term_number, block_of, group_of, P11, P12, P21, P22, A, B, Q1, Q2, T12, signature_of}
use Rattle.scheme.specs.Maps.{sum_m, parts, equation, matrix_index, F12, key_p22, PWith, public_map_with, public_map, key_element, key_of, all_invertible}
use Rattle.scheme.specs.Entries.{matrix_index-lt}
use Rattle.scheme.specs.Refusals.{verdict_refusals}

-- ---- the wrong maps

module _ (set : Set) (public abq : List ℕ) (P22s : ℕ → ℕ → ℕ → Matrix) (U : ℕ → Matrix) where
  -- error 1: equation i with matrix i
  unfoldable pub own_matrix_map : ℕ → Matrix
  own_matrix_map i =
      equation set.l (variables set) (terms set) (λ i alpha. i) (A set abq) (Q1 set abq) (PWith set public P22s) (Q2 set abq) (B set abq) U i

  -- error 2: Q1 and Q2 swapped
  unfoldable pub swapped_map : ℕ → Matrix
  swapped_map i =
      equation set.l (variables set) (terms set) (matrix_index set) (A set abq) (Q2 set abq) (PWith set public P22s) (Q1 set abq) (B set abq) U i

  -- error 2: A moved to the right of the sum over j and k, before B or behind it
  unfoldable pub right_map : (right : ℕ → ℕ → Matrix) → ℕ → Matrix
  right_map right i =
      let M : ℕ → ℕ → ℕ → Matrix = λ alpha. PWith set public P22s (matrix_index set i alpha) in
      sum_m (terms set) (λ alpha.
      mul_m set.l
      (sum_m (variables set) (λ j. sum_m (variables set) (λ k.
      mul_m set.l (transpose (U j)) (mul_m set.l (Q1 set abq i alpha) (mul_m set.l (M alpha j k) (mul_m set.l (Q2 set abq i alpha) (U k)))))))
      (right i alpha))

  -- error 1 does no harm where m = 1
  pub own-matrix-one : set.o ≡ 1 → (i : ℕ) → i < set.o → own_matrix_map i ≡ public_map_with set public abq P22s U i
  unfolding own_matrix_map public_map_with equation
  own-matrix-one e i h =
      value-cong (matrices set.l) (terms set) (variables set) (λ α l. refl) (λ α l. refl)
      (λ α j k l hj hk. ap (λ x. PWith set public P22s x j k) (same α)) (λ α l. refl) (λ α l. refl) (λ j l. refl)
    where
      same : (α : ℕ) → i ≡ matrix_index set i α
      same α = let below : matrix_index set i α < set.o = matrix_index-lt set h α in omega arith

-- ---- the inputs

-- what the definitions compute by; `unfolding opened` opens all of it
unfoldable opened : ℕ
unfolding sum value power polynomial add mul times element half packed_bytes byte_of packed tab terms all_terms term_number add_m mul_m transpose scale_m S one_m coefficient det minor skip
    invertible shift first_from shift_of can_be_invertible algorithm2 block_of group_of P11 P12 P21 P22 A B Q1 Q2 T12 signature_of parts equation matrix_index F12 key_p22
    public_map_with
opened = 0

-- error 1, in the set (1, 2, 2): public stream 01 and zeros, ABQ stream and key of zeros, U of a one in its first entry
abbrev pub set2 : Set
set2 = record { v = 1; o = 2; l = 2 }

abbrev pub public2 : List ℕ
public2 = 1 ∷ replicate 19 0

abbrev pub abq2 : List ℕ
abq2 = replicate 72 0

abbrev pub key2 : List ℕ
key2 = replicate 16 0

abbrev pub signature2 : List ℕ
signature2 = 1 ∷ replicate 21 0

-- error 2, in the set (1, 1, 2): public stream 01 and zeros, key of zeros; the ABQ stream has A(0,0) = (0 1; 0 0) before Algorithm 2, coefficients 1, 1 for the
-- first q1, and zeros; U is the one, and zeros
abbrev pub set1 : Set
set1 = record { v = 1; o = 1; l = 2 }

abbrev pub public1 : List ℕ
public1 = 0x01 ∷ replicate 5 0

abbrev pub abq1 : List ℕ
abq1 = 0x10 ∷ replicate 23 0 ++ (0x11 ∷ replicate 11 0)

abbrev pub key1 : List ℕ
key1 = replicate 2 0

abbrev pub signature1 : List ℕ
signature1 = 0x01 ∷ 0x10 ∷ replicate 18 0

-- the verdict takes them: nothing is refused
pub error-inputs-taken : (first (verdict_refusals set2 public2 abq2 (replicate 4 0) key2 signature2) ≡ 0)
    × (first (verdict_refusals set1 public1 abq1 (replicate 2 0) key1 signature1) ≡ 0)
unfolding opened first verdict_refusals verdict_rules allowed_set public_bytes public_count abq_bytes abq_count target_bytes target_count key_bytes key_count signature_bytes
    signature_count all_invertible
error-inputs-taken = (refl, refl)

-- ---- the values

-- error 1: entry (0, 0) of equation 0 is 12 with i' = (i + alpha) modulo m, and 0 with matrix i
pub own-matrix-two : (public_map set2 public2 abq2 key2 (signature_of set2 signature2) 0 0 0 ≡ 12)
    × (own_matrix_map set2 public2 abq2 (P22 set2 key2) (signature_of set2 signature2) 0 0 0 ≡ 0)
unfolding opened own_matrix_map
own-matrix-two = (refl, refl)

-- error 2: entry (0, 0) is 6; with Q1 and Q2 swapped it is 1; with A to the right of the sum it is 7, or 13 behind B
pub swapped-and-right : (public_map set1 public1 abq1 key1 (signature_of set1 signature1) 0 0 0 ≡ 6)
    × (swapped_map set1 public1 abq1 (P22 set1 key1) (signature_of set1 signature1) 0 0 0 ≡ 1)
    × (right_map set1 public1 abq1 (P22 set1 key1) (signature_of set1 signature1) (λ i alpha. mul_m 2 (A set1 abq1 i alpha) (B set1 abq1 i alpha)) 0 0 0 ≡ 7)
    × (right_map set1 public1 abq1 (P22 set1 key1) (signature_of set1 signature1) (λ i alpha. mul_m 2 (B set1 abq1 i alpha) (A set1 abq1 i alpha)) 0 0 0 ≡ 13)
unfolding opened swapped_map right_map
swapped-and-right = (refl, refl, refl, refl)

-- error 5: T12 taken as zero makes P22 zero; page 01's example has the key C8 3C
pub page-key : key_of set1 (0x01 ∷ 0x10 ∷ replicate 4 0) (0x15 ∷ []) ≡ 0xC8 ∷ 0x3C ∷ []
unfolding opened key_of key_count key_element
page-key = refl
