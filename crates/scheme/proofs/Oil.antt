-- The oil that solves is the only one exactly where only all-zero oil is sent to zero. Rests on specs/Oil and Linear: the linear part is additive.
use Rattle.std.specs.Prelude.{List, ℕ, ◌<◌}
use Rattle.std.proofs.Common.{sym, ◌∙◌}
use Rattle.std.proofs.Math.Path.{ap, ap₂}
use Rattle.algebra.specs.Ring.{add-cancel, add-move-left}
use Rattle.field.specs.Field.{add}
use Rattle.field.specs.Laws.{add-lt, add-self, add-zero}
use Rattle.field.specs.FieldRing.{field-ring}
use Rattle.sets.specs.declared.Set.{Set}
use Rattle.matrix.specs.Matrix.{Matrix, add_m}
use Rattle.matrix.specs.Same.{Same}
use Rattle.scheme.specs.Linear.{linear_part-add}
use Rattle.scheme.specs.Oil.{Oil, AllZero, SentToZero, Solves, OnlyZero, Redo, solves-linear}

-- ---- sums of oil choices

oil-add : {set : Set} {oil oil' : ℕ → Matrix} → Oil set oil → Oil set oil' → Oil set (λ k. add_m (oil k) (oil' k))
unfolding add_m
oil-add a b = record { element = λ k r c hk hr hc. add-lt _ _ (a.element k r c hk hr hc) (b.element k r c hk hr hc) }

-- two choices whose sum is all zero agree
zero-sum-same : {set : Set} (oil oil' : ℕ → Matrix) → AllZero set (λ k. add_m (oil k) (oil' k)) → (k : ℕ) → k < set.o → Same set.l (oil k) (oil' k)
unfolding add_m
zero-sum-same oil oil' z k hk = record { at = λ r c hr hc. add-cancel field-ring (z.zero k r c hk hr hc) }

module _ {set : Set} {public abq private : List ℕ} {vinegar : ℕ → Matrix} where
  module _ {target : List ℕ} where
    -- the sum of two solutions is sent to zero
    solutions-sum : {oil oil' : ℕ → Matrix} → Solves set public abq private vinegar target oil → Solves set public abq private vinegar target oil'
        → SentToZero set public abq private vinegar (λ k. add_m (oil k) (oil' k))
    unfolding add_m
    solutions-sum {oil} {oil'} s t = record {
      zero = λ i r c hi hr hc.
          ap (λ M. M r c) (linear_part-add set public abq private vinegar oil oil' i)
          ∙ ap₂ add ((solves-linear.0 s).equal i r c hi hr hc) ((solves-linear.0 t).equal i r c hi hr hc) ∙ add-self _;
    }

    -- a solution plus what is sent to zero is a solution
    solution-shift : {oil oil' : ℕ → Matrix} → Solves set public abq private vinegar target oil → SentToZero set public abq private vinegar oil'
        → Solves set public abq private vinegar target (λ k. add_m (oil k) (oil' k))
    unfolding add_m
    solution-shift {oil} {oil'} s z = solves-linear.1 (record {
      equal = λ i r c hi hr hc.
          ap (λ M. M r c) (linear_part-add set public abq private vinegar oil oil' i)
          ∙ ap₂ add ((solves-linear.0 s).equal i r c hi hr hc) (z.zero i r c hi hr hc) ∙ add-zero _;
    })

    -- if only all-zero oil is sent to zero, there is at most one oil choice that makes the central map equal the target
    pub unique-oil : {oil oil' : ℕ → Matrix} → OnlyZero set public abq private vinegar → Oil set oil → Oil set oil'
        → Solves set public abq private vinegar target oil → Solves set public abq private vinegar target oil'
        → (k : ℕ) → k < set.o → Same set.l (oil k) (oil' k)
    unique-oil {oil} {oil'} z a b s t = zero-sum-same oil oil' (z.only _ (oil-add a b) (solutions-sum s t))

    -- where some other oil is sent to zero, no solution is the only one
    pub redo-second : {oil : ℕ → Matrix} → Redo set public abq private vinegar → Oil set oil → Solves set public abq private vinegar target oil
        → ((oil' : ℕ → Matrix) → Oil set oil' → Solves set public abq private vinegar target oil' → (k : ℕ) → k < set.o → Same set.l (oil k) (oil' k))
        → ⊥
    unfolding add_m
    redo-second {oil} d a s one = d.nonzero (record {
      zero = λ k r c hk hr hc.
          add-move-left field-ring (sym ((one (λ k. add_m (oil k) (d.choice k)) (oil-add a d.oil) (solution-shift s d.sent) k hk).at r c hr hc)) ∙ add-self _;
    })
