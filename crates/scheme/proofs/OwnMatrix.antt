-- Students' error 1 for every allowed set: equation i with matrix i agrees with the public map on all inputs only where m = 1 (page 01).
-- Where m is above 1, streams with a single element that is not 0 tell the two apart: in the public stream the first entry of P11(1,0,0), in the signature that of
-- U0, and in the ABQ stream that of A(0,1), or none. Rests on Single, Errors and Entries, and on values computed for each l.
use Rattle.std.specs.Prelude.{◌≡◌, refl, ◌≢◌, Bool, not, List, ℕ, suc, ◌+◌, ◌*◌, ◌<◌, ◌≤◌, eqb, ltb}
use Rattle.std.proofs.Math.Path.{sym}
use Rattle.std.proofs.Common.{ap, ap₂, ◌∙◌, mul-le-mul_left, le-ltb, eq-eqb, ne_eqb}
use Rattle.std.proofs.Math.Bool.{true, false}
use Rattle.std.proofs.Math.Nat.{mul-le-mul, mul-le-mul_right, mul-pos, mod-eq_of_lt}
use Rattle.std.proofs.Math.Decide.{dec_lt, ℕ_discrete}
use native.Mathlib.Omega.{arith}
use borrow.Author.Tests.{eqb-false, not-true}
use Rattle.ground.specs.Pick.{pick, both, both_left, both_right}
use Rattle.ground.specs.Place.{row_fits}
use Rattle.ground.specs.Answers.{first, met-none, met-more, first-met}
use Rattle.ground.specs.Tests.{every}
use Rattle.algebra.specs.Ring.{zero-mul, mul-zero}
use Rattle.algebra.specs.Sum.{sum, sum_zeros, sum_one, sum-add}
use Rattle.algebra.specs.Map.{value-first}
use Rattle.algebra.specs.Powers.{power, polynomial}
use Rattle.field.specs.Field.{add, mul, times}
use Rattle.field.specs.Laws as Field
use Rattle.packing.specs.Packing.{packed_bytes}
use Rattle.sets.specs.declared.Set.{Set}
use Rattle.sets.specs.Sets.{least_l, most_l, allowed_set, terms, all_terms, variables, public_count, abq_count, target_count, key_count, signature_count}
use Rattle.sets.specs.Sets.{public_bytes, abq_bytes, target_bytes, key_bytes, signature_bytes}
use Rattle.refusals.specs.Rules.{verdict_rules}
use Rattle.sets.specs.Bounds.{Limits, limits}
use Rattle.matrix.specs.Matrix.{Matrix, zero_m, add_m, mul_m, transpose, scale_m}
use Rattle.matrix.specs.MatrixRing.{matrices}
use Rattle.matrix.specs.RingElements.{S, one_m, coefficient, algorithm1}
use Rattle.matrix.specs.Determinant.{det, minor, skip}
use Rattle.matrix.specs.Invertible.{invertible, shift, first_from, shift_of, can_be_invertible, algorithm2}
use Rattle.matrix.specs.InvertibleLaws.{algorithm2-same, can_be_invertible-same}
use Rattle.matrix.specs.RingSteps.{algorithm1-cong}
use Rattle.matrix.specs.Same.{Same, same_refl, same-sym, same-trans, same-equal, same-mul, same_sum}
use Rattle.scheme.specs.Streams.{term_number, block_of, group_of, p11_number, P11, P22, a_number, b_number, q1_number, q2_number, A, B, Q1, Q2, signature_of}
use Rattle.scheme.specs.Maps.{sum_m, equation, matrix_index, PWith, public_map_with, public_map, all_invertible}
use Rattle.scheme.specs.Parts.{parts-11}
use Rattle.scheme.specs.Entries.{value_same}
use Rattle.ground.specs.Tests.{every-at, every_true}
use Rattle.scheme.specs.Refusals.{verdict_refusals}
use Rattle.scheme.specs.Errors.{own_matrix_map}
use Rattle.scheme.specs.Single.{corner, corner-zero, single, length-single, single-element, single-block, corner-between, corner-symmetric, corner-pick}

-- ---- what is computed, for each l

-- Q1 and Q2 of coefficients 0, and what stands right of A in the one term that tells
abbrev zero_q : ℕ → Matrix
zero_q l = algorithm1 l (λ k. 0)

abbrev rest : ℕ → ℕ
rest l = mul (zero_q l 0 0) (mul (zero_q l 0 0) (algorithm2 l (corner 0) 0 0))

value-test : every (suc most_l) (λ l. pick (ltb l least_l) true
    (not (eqb (add (mul (algorithm2 l (corner 1) 0 0) (rest l)) (mul (algorithm2 l (corner 0) 0 0) (rest l))) 0))) ≡ true
unfolding sum add mul times power polynomial add_m mul_m scale_m S one_m coefficient det minor skip invertible shift first_from shift_of algorithm2
value-test = refl

taken-test : every (suc most_l) (λ l. pick (ltb l least_l) true (both (can_be_invertible l (corner 0)) (can_be_invertible l (corner 1)))) ≡ true
unfolding sum add mul times add_m scale_m S det minor skip invertible shift first_from shift_of can_be_invertible
taken-test = refl

module _ (set : Set) (h : Limits set) (many : 1 < set.o) where
  l-some : 0 < set.l
  l-some = omega (arith, h.l-least)

  terms-some : 1 < terms set
  unfolding terms
  terms-some = omega (arith, mul-pos l-some l-some, h.l-least)

  abbrev public : List ℕ
  public = single (public_count set) (set.v * set.v * (set.l * set.l)) 1

  abbrev abq : ℕ → List ℕ
  abq x = single (abq_count set) (1 * (set.l * set.l)) x

  abbrev signature : List ℕ
  signature = single (signature_count set + 32) (0 * (set.l * set.l)) 1

  abbrev key : List ℕ
  key = single (key_count set) 0 0

  abbrev target : List ℕ
  target = single (target_count set) 0 0

  public-inside : set.v * set.v * (set.l * set.l) < public_count set
  unfolding public_count
  public-inside =
      let ll : 0 < set.l * set.l = mul-pos l-some l-some in
      let vo : 0 < set.v * set.o = mul-pos h.v-least h.o-least in
      let once = mul-le-mul_right (set.v * set.v + 2 * set.v * set.o) h.o-least in
      let more : set.v * set.v < set.o * (set.v * set.v + 2 * set.v * set.o) = omega arith in
      omega (arith, row_fits (set.l * set.l) more)

  all-some : 1 < all_terms set
  unfolding all_terms
  all-some = omega (arith, mul-le-mul h.o-least terms-some)

  abq-inside : 1 * (set.l * set.l) < abq_count set
  unfolding abq_count
  abq-inside =
      let ll : 0 < set.l * set.l = mul-pos l-some l-some in
      let some : 1 ≤ all_terms set = omega (arith, all-some) in
      omega (arith, mul-le-mul_right (2 * (set.l * set.l) + 2 * set.l) some)

  -- ---- the ingredients of equation 0

  abbrev U : ℕ → Matrix
  U j = pick (eqb j 0) (corner 1) zero_m

  U-is : (j : ℕ) → Same set.l (signature_of set signature j) (U j)
  unfolding signature_of
  U-is j =
      same-trans (single-block set.l (signature_count set + 32) 0 1 (omega arith) (omega arith) j) (same-equal (corner-pick (eqb j 0) 1))

  abbrev P : ℕ → Matrix
  P i = PWith set public (P22 set key) i 0 0

  P-is : (i : ℕ) → Same set.l (P i) (corner (pick (eqb (p11_number set i 0 0) (set.v * set.v)) 1 0))
  unfolding P11
  P-is i =
      same-trans (same-equal (parts-11 set.v _ _ _ _ 0 0 h.v-least h.v-least))
      (single-block set.l (public_count set) (set.v * set.v) 1 public-inside (omega arith) (p11_number set i 0 0))

  P-zero : Same set.l (P 0) zero_m
  P-zero =
      let vv : 0 < set.v * set.v = mul-pos h.v-least h.v-least in
      let other : p11_number set 0 0 0 ≢ set.v * set.v = λ e. omega arith in
      same-trans (P-is 0) (same-equal (ap (λ t. corner (pick t 1 0)) (ne_eqb _ _ other) ∙ corner-zero))

  P-one : Same set.l (P 1) (corner 1)
  P-one = same-trans (P-is 1) (same-equal (ap (λ t. corner (pick t 1 0)) (eq-eqb (p11_number set 1 0 0) (set.v * set.v) (omega arith))))

  module _ (x : ℕ) (small : x < 16) where
    abbrev As : ℕ → Matrix
    As α = algorithm2 set.l (corner (pick (eqb α 1) x 0))

    block-is : (b : ℕ) → Same set.l (block_of set.l (abq x) b) (corner (pick (eqb b 1) x 0))
    block-is b = single-block set.l (abq_count set) 1 x abq-inside small b

    A-is : (α : ℕ) → Same set.l (A set (abq x) 0 α) (As α)
    unfolding A term_number
    A-is α =
        let number : a_number set 0 α ≡ α = omega arith in
        algorithm2-same (same-trans (block-is (a_number set 0 α)) (same-equal (ap (λ b. corner (pick (eqb b 1) x 0)) number)))

    B-is : (α : ℕ) → Same set.l (B set (abq x) 0 α) (algorithm2 set.l (corner 0))
    unfolding B
    B-is α =
        let other : b_number set 0 α ≢ 1 = λ e. omega (arith, all-some) in
        algorithm2-same (same-trans (block-is (b_number set 0 α)) (same-equal (ap (λ t. corner (pick t x 0)) (ne_eqb _ _ other))))

    groups : (g : ℕ) → 2 * all_terms set * set.l ≤ g → algorithm1 set.l (group_of set.l (abq x) g) ≡ zero_q set.l
    unfolding group_of
    groups g late =
        algorithm1-cong set.l
        (λ k hk.
        let some : 1 ≤ all_terms set = omega (arith, all-some) in
        let many-blocks : 2 * 1 * set.l * set.l ≤ 2 * all_terms set * set.l * set.l = mul-le-mul_right set.l (mul-le-mul_right set.l (mul-le-mul_left 2 some)) in
        let other : g * set.l + k ≢ 1 * (set.l * set.l) = λ e. omega (arith, mul-le-mul_right set.l late, mul-pos l-some l-some) in
        single-element (abq_count set) (1 * (set.l * set.l)) x abq-inside small (g * set.l + k) ∙ rw (ne_eqb _ _ other))

    Q1-is : (α : ℕ) → Q1 set (abq x) 0 α ≡ zero_q set.l
    unfolding Q1
    Q1-is α = groups (q1_number set 0 α) (omega arith)

    Q2-is : (α : ℕ) → Q2 set (abq x) 0 α ≡ zero_q set.l
    unfolding Q2
    Q2-is α = groups (q2_number set 0 α) (omega arith)

  -- what stands right of A in each term, by its matrix index
  abbrev C : ℕ → Matrix
  C i =
      mul_m set.l (transpose (corner 1))
      (mul_m set.l (zero_q set.l) (mul_m set.l (P i) (mul_m set.l (zero_q set.l) (mul_m set.l (corner 1) (algorithm2 set.l (corner 0))))))

  abbrev total : (index : ℕ → ℕ → ℕ) (x : ℕ) → Matrix
  total index x = sum_m (terms set) (λ α. mul_m set.l (algorithm2 set.l (corner (pick (eqb α 1) x 0))) (C (index 0 α)))

  equation-is : (index : ℕ → ℕ → ℕ) (x : ℕ) → x < 16
      → Same set.l
      (equation set.l (variables set) (terms set) index (A set (abq x)) (Q1 set (abq x)) (PWith set public (P22 set key)) (Q2 set (abq x)) (B set (abq x))
      (signature_of set signature) 0)
      (total index x)
  unfolding equation
  equation-is index x small =
      same-trans (value_same (terms set) (variables set) (λ α h. same_refl) (λ α h. same_refl) (λ α j k h hj hk. same_refl) (λ α h. same_refl) (λ α h. same_refl)
      (λ j h. U-is j))
      (same-trans
      (same-equal (value-first (matrices set.l) (terms set) (variables set) (omega (arith, h.v-least)) _ _ _ _ _ U (λ j d. rw (ne_eqb j 0 d))))
      (same_sum (terms set) (λ α h.
      same-mul (A-is x small α) (same-mul same_refl (same-mul (same-equal (Q1-is x small α)) (same-mul same_refl
      (same-mul (same-equal (Q2-is x small α)) (same-mul same_refl (B-is x small α)))))))))

  -- with matrix i, equation 0 meets the zero block only
  own-zero : (x : ℕ) → x < 16 → Same set.l (own_matrix_map set public (abq x) (P22 set key) (signature_of set signature) 0) zero_m
  unfolding own_matrix_map
  own-zero x small =
      let R = matrices set.l in
      same-trans (equation-is (λ i alpha. i) x small)
      (same-trans (same_sum (terms set) (λ α h. same-mul same_refl (same-mul same_refl (same-mul same_refl (same-mul P-zero same_refl)))))
      (same-equal (sum_zeros R (terms set) (λ α h. simp (zero-mul R, mul-zero R)))))

  first-index : matrix_index set 0 1 ≡ 1
  unfolding matrix_index
  first-index = mod-eq_of_lt many

  -- the public map's two values differ in the term of alpha = 1
  difference : add_m (total (matrix_index set) 1) (total (matrix_index set) 0)
      ≡ add_m (mul_m set.l (algorithm2 set.l (corner 1)) (C 1)) (mul_m set.l (algorithm2 set.l (corner 0)) (C 1))
  difference =
      let R = matrices set.l in
      sym (sum-add R (terms set) _ _)
      ∙ sum_one R (terms set) 1 _ terms-some (λ α h d. rw (ne_eqb α 1 d) (R.add-self _))
      ∙ ap (λ i. add_m (mul_m set.l (algorithm2 set.l (corner 1)) (C i)) (mul_m set.l (algorithm2 set.l (corner 0)) (C i))) first-index

  -- and there the entry (0, 0) is a product of entries (0, 0)
  C-one : (M : Matrix) → mul_m set.l M (C 1) 0 0 ≡ mul (M 0 0) (rest set.l)
  C-one M =
      let l = set.l in
      let last = algorithm2 l (corner 0) in
      let inner = mul_m l (zero_q l) (mul_m l (corner 1) last) in
      (same-mul (same_refl {M = M}) (same-mul (same-equal (corner-symmetric 1)) (same-mul same_refl (same-mul P-one same_refl)))).at 0 0 l-some l-some
      ∙ corner-between l l-some M (mul_m l (zero_q l) (mul_m l (corner 1) inner)) 0 0
      ∙ ap (mul (M 0 0)) (corner-between l l-some (zero_q l) inner 0 0 ∙ ap (mul (zero_q l 0 0)) (corner-between l l-some (zero_q l) last 0 0))

  -- the two public maps are not both zero
  not-both-zero : add (total (matrix_index set) 1 0 0) (total (matrix_index set) 0 0 0) ≢ 0
  unfolding add_m
  not-both-zero e =
      let l = set.l in
      let test = every-at (suc most_l)
      (λ l. pick (ltb l least_l) true (not (eqb (add (mul (algorithm2 l (corner 1) 0 0) (rest l)) (mul (algorithm2 l (corner 0) 0 0) (rest l))) 0)))
      value-test l (omega (arith, h.l-most)) in
      eqb-false _ _ (not-true _ (rw (le-ltb l least_l h.l-least) at test)) (sym (ap₂ add (C-one _) (C-one _)) ∙ sym (ap (λ M. M 0 0) difference) ∙ e)

  -- nothing is refused
  corners-taken : (can_be_invertible set.l (corner 0) ≡ true) × (can_be_invertible set.l (corner 1) ≡ true)
  corners-taken =
      let zero-taken = can_be_invertible set.l (corner 0) in
      let one-taken = can_be_invertible set.l (corner 1) in
      let test : both zero-taken one-taken ≡ true = rw (le-ltb set.l least_l h.l-least) at (every-at (suc most_l)
      (λ l. pick (ltb l least_l) true (both (can_be_invertible l (corner 0)) (can_be_invertible l (corner 1)))) taken-test set.l (omega (arith, h.l-most))) in
      (both_left zero-taken one-taken test, both_right zero-taken one-taken test)

  taken : (x : ℕ) → x < 2 → allowed_set set ≡ true → first (verdict_refusals set public (abq x) target key signature) ≡ 0
  unfolding verdict_refusals verdict_rules public_bytes abq_bytes target_bytes key_bytes signature_bytes packed_bytes all_invertible
  taken x few allowed =
      first-met (met-more allowed
      (met-more (eq-eqb _ _ (length-single (public_count set) _ 1))
      (met-more (eq-eqb _ _ (length-single (abq_count set) _ x))
      (met-more (eq-eqb _ _ (length-single (target_count set) 0 0))
      (met-more (eq-eqb _ _ (length-single (key_count set) 0 0))
      (met-more (eq-eqb _ _ (length-single (signature_count set + 32) _ 1 ∙ omega arith))
      (met-more (every_true (2 * all_terms set) _ (λ b l. can_be_invertible-same (block-is x (omega arith) b) ∙ can (eqb b 1)))
      met-none)))))))
    where
      can : (b : Bool) → can_be_invertible set.l (corner (pick b x 0)) ≡ true
      can false = corners-taken.0
      can true =
          elim (ℕ_discrete x 0) [ yes e ↦ rw e corners-taken.0 | no n ↦ let e : x ≡ 1 = omega arith in rw e corners-taken.1 ]

  -- where the two maps agree, the public map is zero
  agree-zero : (x : ℕ) → x < 16
      → Same set.l (own_matrix_map set public (abq x) (P22 set key) (signature_of set signature) 0) (public_map set public (abq x) key (signature_of set signature) 0)
      → total (matrix_index set) x 0 0 ≡ 0
  unfolding public_map_with
  agree-zero x small s = (same-trans (same-sym (equation-is (matrix_index set) x small)) (same-trans (same-sym s) (own-zero x small))).at 0 0 l-some l-some

-- Equation i with matrix i agrees with the public map, on all inputs that the verdict takes, only where m = 1.
pub own-matrix-only-one : (set : Set) → allowed_set set ≡ true
    → ((public abq target key signature : List ℕ) → first (verdict_refusals set public abq target key signature) ≡ 0
    → (i : ℕ) → i < set.o
    → Same set.l (own_matrix_map set public abq (P22 set key) (signature_of set signature) i) (public_map set public abq key (signature_of set signature) i))
    → set.o ≡ 1
own-matrix-only-one set allowed agree = elim (dec_lt 1 set.o) [ yes many ↦ absurd (never many) | no few ↦ omega (arith, (limits set allowed).o-least) ]
  where
    never : 1 < set.o → ⊥
    never many =
        let h = limits set allowed in
        let zero-total : (x : ℕ) → x < 2 → total set h many (matrix_index set) x 0 0 ≡ 0 =
        λ x few. agree-zero set h many x (omega arith) (agree _ _ _ _ _ (taken set h many x few allowed) 0 (omega arith)) in
        not-both-zero set h many (ap₂ add (zero-total 1 (omega arith)) (zero-total 0 (omega arith)) ∙ Field.add-zero 0)
