-- The linear part is the sum of coefficient times unknown, so signing's questions are those of a linear system, row by row.
-- Rests on specs/Coefficients, on algebra's `linear_part-by-oil` and on the parts of F.
use Rattle.std.specs.Prelude.{◌≡◌, ◌↔◌, List, ℕ, ◌*◌, ◌/◌, ◌%◌, ◌<◌}
use Rattle.std.proofs.Math.Path.{sym, ap, ap₂}
use Rattle.std.proofs.Common.{◌∙◌}
use Rattle.algebra.specs.Sum.{sum, sum-cong, sum-mul, mul-sum, sum-swap, sum-pairs, double-add}
use Rattle.algebra.specs.Split.{linear_part-by-oil}
use Rattle.field.specs.Field.{add, mul}
use Rattle.field.specs.Laws.{mul_comm, mul_assoc, add-mul}
use Rattle.field.specs.FieldRing.{field-ring}
use Rattle.packing.specs.Packing.{element}
use Rattle.sets.specs.declared.Set.{Set}
use Rattle.sets.specs.Sets.{terms}
use Rattle.matrix.specs.Matrix.{Matrix, add_m, mul_m, transpose}
use Rattle.matrix.specs.MatrixRing.{matrices}
use Rattle.matrix.specs.Same.{sum-entry}
use Rattle.scheme.specs.Streams.{block_of, target_of, A, B, Q1, Q2}
use Rattle.scheme.specs.Maps.{sum_m, vinegar_part, linear_part}
use Rattle.scheme.specs.Parts.{parts-12, parts-21}
use Rattle.scheme.specs.Oil.{entry_at, oil_from, SentToZero, Solves, OnlyZero, Redo, solves-linear}
use Rattle.scheme.specs.Oil.{square-pos, last-digit, by_number, entry-block, entries-oil_from, oil-from, zero-from, oil-unknowns, zero-unknowns}
use Rattle.scheme.specs.Coefficients.{left_sum, right_sum, coefficient_of, coefficient_at, row_times}

-- ---- the entries of a product of three

mul-assoc-right : (l : ℕ) (L M N K : Matrix) → mul_m l (mul_m l L (mul_m l M N)) K ≡ mul_m l L (mul_m l M (mul_m l N K))
mul-assoc-right l L M N K = simp (matrices l).mul_assoc

triple-entry : (l : ℕ) (L O R : Matrix) (r c : ℕ)
    → mul_m l L (mul_m l O R) r c ≡ sum 0 add l (λ a. sum 0 add l (λ b. mul (mul (L r a) (R b c)) (O a b)))
unfolding mul_m
triple-entry l L O R r c = sum-cong field-ring l (λ a ha. mul-sum field-ring (L r a) l _
    ∙ sum-cong field-ring l (λ b hb. ap (mul (L r a)) (mul_comm (O a b) (R b c)) ∙ sym (mul_assoc (L r a) (R b c) (O a b))))

triple-transpose-entry : (l : ℕ) (L O R : Matrix) (r c : ℕ)
    → mul_m l L (mul_m l (transpose O) R) r c ≡ sum 0 add l (λ a. sum 0 add l (λ b. mul (mul (L r b) (R a c)) (O a b)))
unfolding transpose
triple-transpose-entry l L O R r c = triple-entry l L (transpose O) R r c ∙ sum-swap field-ring l l _

module _ (set : Set) (public abq private : List ℕ) (vinegar : ℕ → Matrix) where
  -- the linear part by oil matrix
  linear-by-oil : (oil : ℕ → Matrix) (i : ℕ)
      → linear_part set public abq private vinegar oil i
      ≡ sum_m set.o (λ k. sum_m (terms set) (λ alpha. add_m
      (mul_m set.l (A set abq i alpha) (mul_m set.l (left_sum set public abq private vinegar i alpha k)
      (mul_m set.l (Q2 set abq i alpha) (mul_m set.l (oil k) (B set abq i alpha)))))
      (mul_m set.l (A set abq i alpha) (mul_m set.l (transpose (oil k))
      (mul_m set.l (Q1 set abq i alpha) (mul_m set.l (right_sum set public abq private vinegar i alpha k) (B set abq i alpha)))))))
  unfolding linear_part left_sum right_sum
  linear-by-oil oil i =
      linear_part-by-oil (matrices set.l) _ _ _ _ _ _ _ _ _ _
      ∙ sum-cong (matrices set.l) set.o (λ k hk. sum-cong (matrices set.l) (terms set) (λ alpha h. ap₂
      (λ x y. add_m
      (mul_m set.l (A set abq i alpha) (mul_m set.l x (mul_m set.l (Q2 set abq i alpha) (mul_m set.l (oil k) (B set abq i alpha)))))
      (mul_m set.l (A set abq i alpha) (mul_m set.l (transpose (oil k)) (mul_m set.l (Q1 set abq i alpha) (mul_m set.l y (B set abq i alpha))))))
      (sum-cong (matrices set.l) set.v (λ j hj. ap (λ x. mul_m set.l (transpose (vinegar j)) (mul_m set.l (Q1 set abq i alpha) x)) (parts-12 set.v _ _ _ _ j k hj)))
      (sum-cong (matrices set.l) set.v (λ j hj. ap (λ x. mul_m set.l x (mul_m set.l (Q2 set abq i alpha) (vinegar j))) (parts-21 set.v _ _ _ _ k j hj)))))

  -- entry (r, c) of what oil matrix k adds to equation i
  oil-entry : (O : Matrix) (i k r c : ℕ)
      → sum_m (terms set) (λ alpha. add_m
      (mul_m set.l (A set abq i alpha) (mul_m set.l (left_sum set public abq private vinegar i alpha k)
      (mul_m set.l (Q2 set abq i alpha) (mul_m set.l O (B set abq i alpha)))))
      (mul_m set.l (A set abq i alpha) (mul_m set.l (transpose O)
      (mul_m set.l (Q1 set abq i alpha) (mul_m set.l (right_sum set public abq private vinegar i alpha k) (B set abq i alpha)))))) r c
      ≡ sum 0 add set.l (λ a. sum 0 add set.l (λ b. mul (coefficient_of set public abq private vinegar i r c k a b) (O a b)))
  unfolding coefficient_of add_m
  oil-entry O i k r c =
      sum-entry (terms set) _ r c
      ∙ sum-cong field-ring (terms set) (λ alpha h. ap₂ add
      (ap (λ M. M r c) (sym (mul-assoc-right set.l _ _ _ _)) ∙ triple-entry set.l _ O _ r c) (triple-transpose-entry set.l _ O _ r c)
      ∙ sym (double-add field-ring set.l set.l _ _)
      ∙ sum-cong field-ring set.l (λ a ha. sum-cong field-ring set.l (λ b hb. sym (add-mul _ _ (O a b)))))
      ∙ sum-swap field-ring (terms set) set.l _
      ∙ sum-cong field-ring set.l (λ a ha. sum-swap field-ring (terms set) set.l _
      ∙ sum-cong field-ring set.l (λ b hb. sym (sum-mul field-ring (O a b) (terms set) _)))

  -- the linear part's entry is the sum of coefficient times unknown
  pub linear-coefficients : (oil : ℕ → Matrix) (i r c : ℕ) → 0 < set.l
      → linear_part set public abq private vinegar oil i r c
      ≡ sum 0 add (set.o * (set.l * set.l)) (λ e.
      mul (coefficient_at set public abq private vinegar i r c e) (oil (e / (set.l * set.l)) (e % (set.l * set.l) / set.l) (e % set.l)))
  unfolding coefficient_at
  linear-coefficients oil i r c p =
      ap (λ M. M r c) (linear-by-oil oil i)
      ∙ sum-entry set.o _ r c
      ∙ sum-cong field-ring set.o (λ k hk. oil-entry (oil k) i k r c
      ∙ sum-pairs field-ring set.l set.l (λ a b. mul (coefficient_of set public abq private vinegar i r c k a b) (oil k a b)) p)
      ∙ sum-pairs field-ring set.o (set.l * set.l)
      (λ k x. mul (coefficient_of set public abq private vinegar i r c k (x / set.l) (x % set.l)) (oil k (x / set.l) (x % set.l))) (square-pos p)
      ∙ sum-cong field-ring (set.o * (set.l * set.l)) (λ e h. ap (λ b. mul
      (coefficient_of set public abq private vinegar i r c (e / (set.l * set.l)) (e % (set.l * set.l) / set.l) b)
      (oil (e / (set.l * set.l)) (e % (set.l * set.l) / set.l) b)) (last-digit e set.l))

-- ---- the system by row number and unknown number

module _ (set : Set) (public abq private : List ℕ) (vinegar : ℕ → Matrix) where
  module _ (p : 0 < set.l) where
    linear-row : (oil : ℕ → Matrix) (y : ℕ) → entry_at set.l (linear_part set public abq private vinegar oil) y ≡ row_times set public abq private vinegar (entry_at set.l oil) y
    unfolding row_times
    linear-row oil y = linear-coefficients set public abq private vinegar oil _ _ _ p

    -- oil is sent to zero exactly when every row times its entries is zero
    sent-rows : (oil : ℕ → Matrix)
        → SentToZero set public abq private vinegar oil ↔ ((y : ℕ) → y < set.o * (set.l * set.l) → row_times set public abq private vinegar (entry_at set.l oil) y ≡ 0)
    sent-rows oil = (
      (λ z y h. sym (linear-row oil y) ∙ (by_number set.l set.o _ p).0 z.zero y h),
      (λ z. record { zero = (by_number set.l set.o (λ i r c. linear_part set public abq private vinegar oil i r c ≡ 0) p).1 (λ y h. linear-row oil y ∙ z y h) }),
    )

    -- oil solves exactly when every row times its entries is the vinegar part plus the target
    solves-rows : (target : List ℕ) (oil : ℕ → Matrix)
        → Solves set public abq private vinegar target oil
        ↔ ((y : ℕ) → y < set.o * (set.l * set.l) → row_times set public abq private vinegar (entry_at set.l oil) y ≡ add (entry_at set.l (vinegar_part set public abq vinegar) y) (element target y))
    unfolding target_of
    solves-rows target oil = (
      (λ s y h. sym (linear-row oil y) ∙ (by_number set.l set.o _ p).0 (solves-linear.0 s).equal y h ∙ ap (add _) (entry-block set.l target y)),
      (λ s. solves-linear.1 (record {
        equal = (by_number set.l set.o
            (λ i r c. linear_part set public abq private vinegar oil i r c ≡ add (vinegar_part set public abq vinegar i r c) (block_of set.l target i r c)) p).1
            (λ y h. linear-row oil y ∙ s y h ∙ ap (add _) (sym (entry-block set.l target y)));
      })),
    )

    -- the same of unknowns, as elimination finds them: only zero unknowns are sent to zero, or some others are, or a solution is given

    sent-from : (s : ℕ → ℕ) → ((y : ℕ) → y < set.o * (set.l * set.l) → row_times set public abq private vinegar s y ≡ 0) → SentToZero set public abq private vinegar (oil_from set.l s)
    sent-from s t = (sent-rows (oil_from set.l s)).1 (rw (entries-oil_from set.l s) t)

    pub only_zero-rows :
        OnlyZero set public abq private vinegar
        ↔ ((s : ℕ → ℕ) → ((e : ℕ) → e < set.o * (set.l * set.l) → s e < 16) → ((y : ℕ) → y < set.o * (set.l * set.l) → row_times set public abq private vinegar s y ≡ 0)
        → (e : ℕ) → e < set.o * (set.l * set.l) → s e ≡ 0)
    only_zero-rows = (
      (λ z s h t. zero-from p s (z.only (oil_from set.l s) (oil-from p s h) (sent-from s t))),
      (λ z. record { only = λ oil a t. (zero-unknowns p).1 (z (entry_at set.l oil) ((oil-unknowns p).0 a) ((sent-rows oil).0 t)) }),
    )

    pub redo-rows : (s : ℕ → ℕ) → ((e : ℕ) → e < set.o * (set.l * set.l) → s e < 16) → ((y : ℕ) → y < set.o * (set.l * set.l) → row_times set public abq private vinegar s y ≡ 0)
        → (((e : ℕ) → e < set.o * (set.l * set.l) → s e ≡ 0) → ⊥) → Redo set public abq private vinegar
    redo-rows s h t n = record {
      choice = oil_from set.l s;
      oil = oil-from p s h;
      sent = sent-from s t;
      nonzero = λ z. n (zero-from p s z);
    }

    pub solution-rows : (target : List ℕ) (s : ℕ → ℕ)
        → ((y : ℕ) → y < set.o * (set.l * set.l) → row_times set public abq private vinegar s y ≡ add (entry_at set.l (vinegar_part set public abq vinegar) y) (element target y))
        → Solves set public abq private vinegar target (oil_from set.l s)
    solution-rows target s t = (solves-rows target (oil_from set.l s)).1 (rw (entries-oil_from set.l s) t)
