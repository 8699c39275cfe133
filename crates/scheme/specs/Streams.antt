-- Which element stands where (page 01, "Streams and their sizes"). A stream of matrices is a row of blocks of l² elements, each row by row;
-- a stream of coefficients is a row of groups of l. Each matrix below is given by its block or group number, counted from 0, and by nothing else.
-- Rests on packing's `element` and on Algorithms 1 and 2.
use Rattle.std.specs.Prelude.{List, ℕ, ◌+◌, ◌*◌}
use Rattle.packing.specs.Packing.{element}
use Rattle.sets.specs.declared.Set.{Set}
use Rattle.sets.specs.Sets.{terms, all_terms}
use Rattle.matrix.specs.Matrix.{Matrix}
use Rattle.matrix.specs.RingElements.{algorithm1}
use Rattle.matrix.specs.Invertible.{algorithm2}

-- block number b of a packed stream, as a matrix
unfoldable pub block_of : ℕ → List ℕ → ℕ → Matrix
block_of l s b r c = element s (b * (l * l) + (r * l + c))

-- group number g of a packed stream, as coefficients
unfoldable pub group_of : ℕ → List ℕ → ℕ → ℕ → ℕ
group_of l s g k = element s (g * l + k)

-- number (i, j, k) of blocks that stand i by i, each i in a by b rows and columns
abbrev pub at3 : ℕ → ℕ → ℕ → ℕ → ℕ → ℕ
at3 a b i j k = (i * a + j) * b + k

module _ (set : Set) where
  -- Public stream: P11 of all i, then P12 of all i, then P21 of all i.

  abbrev pub p11_number : ℕ → ℕ → ℕ → ℕ
  p11_number i j k = at3 set.v set.v i j k

  abbrev pub p12_number : ℕ → ℕ → ℕ → ℕ
  p12_number i j k = set.o * (set.v * set.v) + at3 set.v set.o i j k

  abbrev pub p21_number : ℕ → ℕ → ℕ → ℕ
  p21_number i j k = set.o * (set.v * set.v) + set.o * (set.v * set.o) + at3 set.o set.v i j k

  unfoldable pub P11 : List ℕ → ℕ → ℕ → ℕ → Matrix
  P11 public i j k = block_of set.l public (p11_number i j k)

  unfoldable pub P12 : List ℕ → ℕ → ℕ → ℕ → Matrix
  P12 public i j k = block_of set.l public (p12_number i j k)

  unfoldable pub P21 : List ℕ → ℕ → ℕ → ℕ → Matrix
  P21 public i j k = block_of set.l public (p21_number i j k)

  -- ABQ stream: A for all i (alpha inner), then B, then q1, then q2. A and B are blocks and go through Algorithm 2;
  -- q1 and q2 are groups of coefficients, which begin where the blocks of all A and B end, and go through Algorithm 1.

  -- the number of term (i, alpha) among all terms
  unfoldable pub term_number : ℕ → ℕ → ℕ
  term_number i alpha = i * terms set + alpha

  abbrev pub a_number : ℕ → ℕ → ℕ
  a_number i alpha = term_number i alpha

  abbrev pub b_number : ℕ → ℕ → ℕ
  b_number i alpha = all_terms set + term_number i alpha

  abbrev pub q1_number : ℕ → ℕ → ℕ
  q1_number i alpha = 2 * all_terms set * set.l + term_number i alpha

  abbrev pub q2_number : ℕ → ℕ → ℕ
  q2_number i alpha = 2 * all_terms set * set.l + all_terms set + term_number i alpha

  unfoldable pub A : List ℕ → ℕ → ℕ → Matrix
  A abq i alpha = algorithm2 set.l (block_of set.l abq (a_number i alpha))

  unfoldable pub B : List ℕ → ℕ → ℕ → Matrix
  B abq i alpha = algorithm2 set.l (block_of set.l abq (b_number i alpha))

  unfoldable pub Q1 : List ℕ → ℕ → ℕ → Matrix
  Q1 abq i alpha = algorithm1 set.l (group_of set.l abq (q1_number i alpha))

  unfoldable pub Q2 : List ℕ → ℕ → ℕ → Matrix
  Q2 abq i alpha = algorithm1 set.l (group_of set.l abq (q2_number i alpha))

  -- Private stream: T12 row by row, each l coefficients through Algorithm 1.

  abbrev pub t12_number : ℕ → ℕ → ℕ
  t12_number j k = j * set.o + k

  unfoldable pub T12 : List ℕ → ℕ → ℕ → Matrix
  T12 private j k = algorithm1 set.l (group_of set.l private (t12_number j k))

  -- Vinegar, target equation by equation, the key P22 by i, row, column, and the signature's matrices.

  unfoldable pub vinegar_of : List ℕ → ℕ → Matrix
  vinegar_of vinegar j = block_of set.l vinegar j

  unfoldable pub target_of : List ℕ → ℕ → Matrix
  target_of target i = block_of set.l target i

  abbrev pub p22_number : ℕ → ℕ → ℕ → ℕ
  p22_number i j k = at3 set.o set.o i j k

  unfoldable pub P22 : List ℕ → ℕ → ℕ → ℕ → Matrix
  P22 key i j k = block_of set.l key (p22_number i j k)

  unfoldable pub signature_of : List ℕ → ℕ → Matrix
  signature_of signature j = block_of set.l signature j
