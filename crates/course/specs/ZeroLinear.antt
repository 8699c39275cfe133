-- Where the vinegar is zero, or the public stream is, the linear part is zero at every oil: every oil choice is sent to zero, and that is redo.
-- Rests on scheme's linear part and oil choices, and on tables' places of P11, P12, P21 in the public stream.
use Rattle.std.specs.Prelude.{◌≡◌, refl, List, ℕ, ◌<◌}
use Rattle.std.proofs.Common.{arith}
use Rattle.algebra.specs.Ring.{mul-zero, zero-mul}
use Rattle.algebra.specs.Sum.{sum_zeros}
use Rattle.algebra.specs.Split as Split
use Rattle.packing.specs.Packing.{element}
use Rattle.sets.specs.declared.Set.{Set}
use Rattle.sets.specs.Sets.{terms, public_count, vinegar_count}
use Rattle.matrix.specs.Matrix.{Matrix, zero_m, add_m, mul_m, transpose}
use Rattle.matrix.specs.MatrixRing.{matrices}
use Rattle.matrix.specs.Same.{Same, same_refl, same-trans, same-equal, same_add, same-mul, same-transpose, same_sum}
use Rattle.scheme.specs.Streams.{block_of, p11_number, p12_number, p21_number, P11, P12, P21, vinegar_of}
use Rattle.scheme.specs.Maps.{sum_m, matrix_index, F12, F21, linear_part}
use Rattle.scheme.specs.Parts.{parts-12, parts-21}
use Rattle.scheme.specs.Entries.{matrix_index-lt}
use Rattle.scheme.specs.Oil.{SentToZero, Redo}
use Rattle.scheme.specs.Verdict.{zero-blocks}
use Rattle.streams.specs.Numbers.{public_blocks, p11-fits, p12-fits, p21-fits}

-- ---- matrices that are zero inside l

abbrev Nought : ℕ → Matrix → Type 0
Nought l M = Same l M zero_m

module _ {l : ℕ} where
  nought-add : {M N : Matrix} → Nought l M → Nought l N → Nought l (add_m M N)
  nought-add m n = same-trans (same_add m n) (same-equal ((matrices l).add-zero zero_m))

  nought-sum : (n : ℕ) {f : ℕ → Matrix} → ((k : ℕ) → k < n → Nought l (f k)) → Nought l (sum_m n f)
  nought-sum n z = same-trans (same_sum n z) (same-equal (sum_zeros (matrices l) n (λ k h. refl)))

  -- a product with such a factor on the left, or on the right
  left : {M : Matrix} (N : Matrix) → Nought l M → Nought l (mul_m l M N)
  left N m = same-trans (same-mul m same_refl) (same-equal (zero-mul (matrices l) N))

  right : (M : Matrix) {N : Matrix} → Nought l N → Nought l (mul_m l M N)
  right M n = same-trans (same-mul same_refl n) (same-equal (mul-zero (matrices l) M))

  nought-transpose : {M : Matrix} → Nought l M → Nought l (transpose M)
  unfolding transpose
  nought-transpose m = same-transpose m

-- ---- the linear part

-- with zero vinegar it is zero at every oil: each term has a vinegar matrix for a factor
pub linear_part-zero-vinegar : (set : Set) (public abq private : List ℕ) {vinegar : ℕ → Matrix} → ((j : ℕ) → j < set.v → Same set.l (vinegar j) zero_m)
    → (oil : ℕ → Matrix) (i : ℕ) → Same set.l (linear_part set public abq private vinegar oil i) zero_m
unfolding linear_part Split.linear_part
linear_part-zero-vinegar set public abq private zero oil i =
    nought-sum (terms set) (λ α h. nought-sum set.v (λ j hj. nought-sum set.o (λ k hk. nought-add
    (right _ (left _ (nought-transpose (zero j hj))))
    (right _ (right _ (right _ (right _ (right _ (left _ (zero j hj))))))))))

module _ (set : Set) (public private : List ℕ) (zeros : (e : ℕ) → e < public_count set → element public e ≡ 0) where
  public-block : (b : ℕ) → b < public_blocks set → Nought set.l (block_of set.l public b)
  unfolding public_count
  public-block b h = zero-blocks set.l (public_blocks set) public (λ e he. zeros e (omega arith)) b h

  module _ {i j k : ℕ} (hi : i < set.o) (hj : j < set.v) (hk : k < set.o) where
    -- F12 = P12 + P11·T12 and F21 = P21 + T12ᵗ·P11 are zero

    F12-zero : Nought set.l (F12 set public private i j k)
    unfolding F12 P11 P12
    F12-zero =
        nought-add (public-block (p12_number set i j k) (omega (arith, p12-fits set hi hj)))
        (nought-sum set.v (λ a ha. left _ (public-block (p11_number set i j a) (omega (arith, p11-fits set hi hj)))))

    F21-zero : Nought set.l (F21 set public private i k j)
    unfolding F21 P11 P21
    F21-zero =
        nought-add (public-block (p21_number set i k j) (omega (arith, p21-fits set hi hk)))
        (nought-sum set.v (λ a ha. right _ (public-block (p11_number set i a j) (omega (arith, p11-fits set hi ha)))))

  -- with a zero public stream it is zero at every vinegar and oil: each term has a matrix of F12 or F21 for a factor
  pub linear_part-zero-public : (abq : List ℕ) (vinegar oil : ℕ → Matrix) (i : ℕ) → i < set.o → Same set.l (linear_part set public abq private vinegar oil i) zero_m
  unfolding linear_part Split.linear_part
  linear_part-zero-public abq vinegar oil i hi =
      nought-sum (terms set) (λ α h. nought-sum set.v (λ j hj. nought-sum set.o (λ k hk.
      let below : matrix_index set i α < set.o = matrix_index-lt set hi α in
      nought-add
      (right _ (right _ (right _ (left _ (same-trans (same-equal (parts-12 set.v _ _ _ _ j k hj)) (F12-zero below hj hk))))))
      (right _ (right _ (right _ (left _ (same-trans (same-equal (parts-21 set.v _ _ _ _ k j hj)) (F21-zero below hj hk)))))))))

-- ---- redo

module _ {set : Set} {public abq private : List ℕ} {vinegar : ℕ → Matrix} where
  -- where every oil is sent to zero, so is the oil whose entries are all 1
  all-sent-redo : 0 < set.o → 0 < set.l → ((oil : ℕ → Matrix) → SentToZero set public abq private vinegar oil) → Redo set public abq private vinegar
  all-sent-redo some-o some-l sent = record {
    choice = λ k r c. 1;
    oil = record { element = λ k r c hk hr hc. omega arith };
    sent = sent (λ k r c. 1);
    nonzero = λ z. omega (arith, z.zero 0 0 0 some-o some-l some-l);
  }

  linear-sent : {oil : ℕ → Matrix} → ((i : ℕ) → i < set.o → Nought set.l (linear_part set public abq private vinegar oil i)) → SentToZero set public abq private vinegar oil
  linear-sent zero = record { zero = λ i r c hi hr hc. (zero i hi).at r c hr hc }

module _ (set : Set) (public abq private : List ℕ) (some-o : 0 < set.o) (some-l : 0 < set.l) where
  -- zero vinegar: some oil choice, not all zero, is sent to zero
  pub redo-zero-vinegar : (vinegar : List ℕ) → ((e : ℕ) → e < vinegar_count set → element vinegar e ≡ 0) → Redo set public abq private (vinegar_of set vinegar)
  unfolding vinegar_of vinegar_count
  redo-zero-vinegar vinegar zeros =
      all-sent-redo some-o some-l (λ oil.
      linear-sent (λ i hi. linear_part-zero-vinegar set public abq private (zero-blocks set.l set.v vinegar zeros) oil i))

  -- a zero public stream: the same, whatever the vinegar is
  pub redo-zero-public : (vinegar : ℕ → Matrix) → ((e : ℕ) → e < public_count set → element public e ≡ 0) → Redo set public abq private vinegar
  redo-zero-public vinegar zeros = all-sent-redo some-o some-l (λ oil. linear-sent (linear_part-zero-public set public private zeros abq vinegar oil))
