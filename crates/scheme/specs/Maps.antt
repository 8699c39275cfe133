-- The public and the central map, the key and the private change (page 01, "Keys, signing, verdict"; document 000, Algorithms 5, 7, 9, 16).
-- Minus is plus here. Rests on Streams and on algebra's `value` and `linear_part`.
use Rattle.std.specs.Prelude.{Bool, List, ℕ, ◌+◌, ◌-◌, ◌*◌, ◌/◌, ◌%◌, ltb, eqb}
use Rattle.ground.specs.Pick.{pick}
use Rattle.ground.specs.Tests.{every}
use Rattle.ground.specs.Fill.{tab}
use Rattle.algebra.specs.Sum.{sum}
use Rattle.algebra.specs.Map.{value}
use Rattle.algebra.specs.Split as Split
use Rattle.packing.specs.Packing.{packed}
use Rattle.sets.specs.declared.Set.{Set}
use Rattle.sets.specs.Sets.{terms, all_terms, variables, key_count}
use Rattle.matrix.specs.Matrix.{Matrix, zero_m, add_m, mul_m, transpose}
use Rattle.matrix.specs.Invertible.{can_be_invertible}
use Rattle.scheme.specs.Streams.{block_of, P11, P12, P21, P22, A, B, Q1, Q2, T12, target_of}

-- the finite sum of matrices
abbrev pub sum_m : ℕ → (ℕ → Matrix) → Matrix
sum_m n f = sum zero_m add_m n f

-- an n by n matrix of matrices, cut at v into its four parts
unfoldable pub parts : ℕ → (M11 M12 M21 M22 : ℕ → ℕ → Matrix) → ℕ → ℕ → Matrix
parts v M11 M12 M21 M22 j k = pick (ltb j v) (pick (ltb k v) (M11 j k) (M12 j (k - v))) (pick (ltb k v) (M21 (j - v) k) (M22 (j - v) (k - v)))

-- a map's equation i, over the number of terms and the rule that picks the matrix index:
-- the sum over alpha, j, k of A(i,alpha) · Ujᵗ · Q1(i,alpha) · M(index i alpha, j, k) · Q2(i,alpha) · Uk · B(i,alpha)
unfoldable pub equation : (l n count : ℕ) (index : ℕ → ℕ → ℕ) (As Q1s : ℕ → ℕ → Matrix) (M : ℕ → ℕ → ℕ → Matrix) (Q2s Bs : ℕ → ℕ → Matrix)
    (U : ℕ → Matrix) → ℕ → Matrix
equation l n count index As Q1s M Q2s Bs U i = value zero_m add_m (mul_m l) transpose count n (As i) (Q1s i) (λ alpha. M (index i alpha)) (Q2s i) (Bs i) U

module _ (set : Set) where
  -- i' = (i + alpha) modulo m: not i (students' error 1)
  unfoldable pub matrix_index : ℕ → ℕ → ℕ
  matrix_index i alpha = (i + alpha) % set.o

  -- F12 = P12 + P11·T12
  unfoldable pub F12 : (public private : List ℕ) → ℕ → ℕ → ℕ → Matrix
  F12 public private i j k = add_m (P12 set public i j k) (sum_m set.v (λ a. mul_m set.l (P11 set public i j a) (T12 set private a k)))

  -- F21 = P21 + T12ᵗ·P11, the transpose over blocks and entries
  unfoldable pub F21 : (public private : List ℕ) → ℕ → ℕ → ℕ → Matrix
  F21 public private i k j =
      add_m (P21 set public i k j) (sum_m set.v (λ a. mul_m set.l (transpose (T12 set private a k)) (P11 set public i a j)))

  -- P22 = T12ᵗ·F12 + P21·T12
  unfoldable pub key_p22 : (public private : List ℕ) → ℕ → ℕ → ℕ → Matrix
  key_p22 public private i j k =
      add_m (sum_m set.v (λ a. mul_m set.l (transpose (T12 set private a j)) (F12 public private i a k)))
      (sum_m set.v (λ a. mul_m set.l (P21 set public i j a) (T12 set private a k)))

  -- P, with the part P22 given; the public map reads it from the key
  abbrev pub PWith : (public : List ℕ) (P22s : ℕ → ℕ → ℕ → Matrix) → ℕ → ℕ → ℕ → Matrix
  PWith public P22s i = parts set.v (P11 set public i) (P12 set public i) (P21 set public i) (P22s i)

  -- F: F11 = P11, F22 = 0
  abbrev pub F : (public private : List ℕ) → ℕ → ℕ → ℕ → Matrix
  F public private i = parts set.v (P11 set public i) (F12 public private i) (F21 public private i) (λ j k. zero_m)

  -- the public map with the part P22 given, equation i at U
  unfoldable pub public_map_with : (public abq : List ℕ) (P22s : ℕ → ℕ → ℕ → Matrix) (U : ℕ → Matrix) → ℕ → Matrix
  public_map_with public abq P22s U i =
      equation set.l (variables set) (terms set) matrix_index (A set abq) (Q1 set abq) (PWith public P22s) (Q2 set abq) (B set abq) U i

  -- the public map of a key
  abbrev pub public_map : (public abq key : List ℕ) (U : ℕ → Matrix) → ℕ → Matrix
  public_map public abq key U i = public_map_with public abq (P22 set key) U i

  -- the central map: the same with F
  unfoldable pub central_map : (public abq private : List ℕ) (X : ℕ → Matrix) → ℕ → Matrix
  central_map public abq private X i =
      equation set.l (variables set) (terms set) matrix_index (A set abq) (Q1 set abq) (F public private) (Q2 set abq) (B set abq) X i

  -- the private linear change sends U to X: Xj = Uj + the sum over k of T12(j,k)·U(v+k) for j < v, and oil unchanged
  unfoldable pub private_change : (private : List ℕ) (U : ℕ → Matrix) → ℕ → Matrix
  private_change private U j =
      pick (ltb j set.v) (add_m (U j) (sum_m set.o (λ k. mul_m set.l (T12 set private j k) (U (set.v + k))))) (U j)

  -- the vinegar part: the terms of the central map with no oil index
  unfoldable pub vinegar_part : (public abq : List ℕ) (vinegar : ℕ → Matrix) → ℕ → Matrix
  vinegar_part public abq vinegar i =
      equation set.l set.v (terms set) matrix_index (A set abq) (Q1 set abq) (λ i'. P11 set public i') (Q2 set abq) (B set abq) vinegar i

  -- the linear part: the terms of the central map with exactly one oil index
  unfoldable pub linear_part : (public abq private : List ℕ) (vinegar oil : ℕ → Matrix) → ℕ → Matrix
  linear_part public abq private vinegar oil i =
      Split.linear_part zero_m add_m (mul_m set.l) transpose (terms set) set.v set.o (A set abq i) (Q1 set abq i)
      (λ alpha. F public private (matrix_index i alpha)) (Q2 set abq i) (B set abq i) vinegar oil

  -- element e of the key: P22 by i, row, column, each block row by row
  unfoldable pub key_element : (public private : List ℕ) → ℕ → ℕ
  key_element public private e =
      let b = e / (set.l * set.l) in
      let x = e % (set.l * set.l) in
      key_p22 public private (b / set.o / set.o) (b / set.o % set.o) (b % set.o) (x / set.l) (x % set.l)

  -- the key's bytes
  unfoldable pub key_of : (public private : List ℕ) → List ℕ
  key_of public private = packed (tab (key_count set) (key_element public private))

  -- no A and no B is refused by 21
  unfoldable pub all_invertible : (abq : List ℕ) → Bool
  all_invertible abq = every (2 * all_terms set) (λ b. can_be_invertible set.l (block_of set.l abq b))

  -- every entry of every equation equals the target
  unfoldable pub meets : (map : ℕ → Matrix) (target : List ℕ) → Bool
  meets map target = every set.o (λ i. every set.l (λ r. every set.l (λ c. eqb (map i r c) (target_of set target i r c))))
