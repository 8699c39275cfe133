-- The public map of the generated key at U is the central map at the private change of U, for every U (page 01, "Keys, signing, verdict").
-- The key, the change and the ring elements meet what algebra's composition asks for: F16[S] is commutative and symmetric.
-- Rests on Parts, on algebra's Composition and on matrix's RingLaws.
use Rattle.std.specs.Prelude.{◌≡◌, List}
use Rattle.std.proofs.Math.Path.{sym, ap}
use Rattle.std.proofs.Common.{ap₂, ◌∙◌, arith, ℕ, ◌<◌}
use Rattle.std.proofs.Math.Decide.{dec_lt}
use Rattle.algebra.specs.Sum.{sum-cong}
use Rattle.algebra.specs.Composition as Algebra
use Rattle.algebra.specs.Composition.{Keys, Change, change-involution}
use Rattle.sets.specs.declared.Set.{Set}
use Rattle.matrix.specs.Matrix.{Matrix, zero_m, add_m, mul_m, transpose}
use Rattle.matrix.specs.MatrixRing.{matrices}
use Rattle.matrix.specs.RingLaws.{algorithm1-comm, algorithm1-symmetric}
use Rattle.scheme.specs.Streams.{P11, P12, P21, A, B, Q1, Q2, T12}
use Rattle.scheme.specs.Maps.{equation, matrix_index, F12, F21, key_p22, PWith, F, public_map_with, central_map, private_change}
use Rattle.scheme.specs.Parts.{four-parts, change-vinegar, change-oil, change-past}

module _ (set : Set) (public private : List ℕ) where
  -- P with the generated P22, and F, are related as page 01's rules say
  private-keys : (i : ℕ)
      → Keys zero_m add_m (mul_m set.l) transpose set.v set.o (T12 set private) (PWith set public (key_p22 set public private) i) (F set public private i)
  unfolding F12 F21 key_p22
  private-keys i =
      let R = matrices set.l in
      let T = T12 set private in
      let times-T : Matrix → ℕ → ℕ → Matrix = λ M a k. mul_m set.l M (T a k) in
      let T-times : ℕ → ℕ → Matrix → Matrix = λ a k M. mul_m set.l (transpose (T a k)) M in
      let P = four-parts set.v (P11 set public i) (P12 set public i) (P21 set public i) (key_p22 set public private i) in
      let F = four-parts set.v (P11 set public i) (F12 set public private i) (F21 set public private i) (λ j k. zero_m) in
      record {
        f11 = λ j k hj hk. F.at-11 j k hj hk ∙ sym (P.at-11 j k hj hk);
        f12 = λ j k hj hk.
            F.at-12 j k hj ∙ sym (ap₂ add_m (P.at-12 j k hj) (sum-cong R set.v (λ a h. ap (λ M. times-T M a k) (P.at-11 j a hj h))));
        f21 = λ k j hk hj.
            F.at-21 k j hj ∙ sym (ap₂ add_m (P.at-21 k j hj) (sum-cong R set.v (λ a h. ap (T-times a k) (P.at-11 a j h hj))));
        f22 = λ j k hj hk. F.at-22 j k;
        p22 = λ j k hj hk.
            P.at-22 j k
            ∙ sym (ap₂ add_m
            (sum-cong R set.v (λ a h. ap (T-times a j) (F.at-12 a k h)))
            (sum-cong R set.v (λ a h. ap (λ M. times-T M a k) (P.at-21 j a h))));
      }

module _ (set : Set) (private : List ℕ) where
  private-change : (U : ℕ → Matrix) → Change zero_m add_m (mul_m set.l) set.v set.o (T12 set private) U (private_change set private U)
  private-change U = record { vinegar = change-vinegar set private U; oil = λ k h. change-oil set private U k }

  -- The private change is its own inverse.
  pub private-change-own-inverse : (U : ℕ → Matrix) (j : ℕ) → private_change set private (private_change set private U) j ≡ U j
  private-change-own-inverse U j =
      let X = private_change set private U in
      elim (dec_lt j set.v) [
        | yes h ↦ change-vinegar set private X j h ∙ sym ((change-involution (matrices set.l) (private-change U)).vinegar j h)
        | no h ↦ change-past set private X j (omega arith) ∙ change-past set private U j (omega arith)
      ]

-- T12, Q1 and Q2 are elements of F16[S].
module _ (set : Set) (some : 0 < set.l) where
  T12-symmetric : (private : List ℕ) (j k : ℕ) → transpose (T12 set private j k) ≡ T12 set private j k
  unfolding T12
  T12-symmetric private j k = algorithm1-symmetric set.l some _

  T12-Q1 : (private abq : List ℕ) (i alpha j k : ℕ)
      → mul_m set.l (T12 set private j k) (Q1 set abq i alpha) ≡ mul_m set.l (Q1 set abq i alpha) (T12 set private j k)
  unfolding T12 Q1
  T12-Q1 private abq i alpha j k = algorithm1-comm set.l some _ _

  T12-Q2 : (private abq : List ℕ) (i alpha j k : ℕ)
      → mul_m set.l (T12 set private j k) (Q2 set abq i alpha) ≡ mul_m set.l (Q2 set abq i alpha) (T12 set private j k)
  unfolding T12 Q2
  T12-Q2 private abq i alpha j k = algorithm1-comm set.l some _ _

-- The public map with the generated P22 at U is the central map at the private change of U: as equations of functions, for any U.
pub composition : (set : Set) → 0 < set.l → (public abq private : List ℕ) (U : ℕ → Matrix) (i : ℕ)
    → public_map_with set public abq (key_p22 set public private) U i ≡ central_map set public abq private (private_change set private U) i
unfolding public_map_with central_map equation
composition set some public abq private U i =
    Algebra.composition (matrices set.l) (A set abq i) (B set abq i)
    (λ j k hj hk. T12-symmetric set some private j k)
    (λ alpha j k h hj hk. T12-Q1 set some private abq i alpha j k)
    (λ alpha j k h hj hk. T12-Q2 set some private abq i alpha j k)
    (λ alpha h. private-keys set public private (matrix_index set i alpha))
    (private-change set private U)
