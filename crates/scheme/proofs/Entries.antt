-- What the private change reads, and that it keeps elements: entries inside l are made of entries inside l only. Rests on Parts, on specs/Entries and on matrix's Same.
use Rattle.std.specs.Prelude.{List, ℕ, ◌+◌, ◌<◌}
use Rattle.std.proofs.Common.{sym, arith}
use Rattle.std.proofs.Math.Decide.{dec_lt}
use Rattle.sets.specs.declared.Set.{Set}
use Rattle.sets.specs.Sets.{variables}
use Rattle.matrix.specs.Matrix.{Matrix}
use Rattle.matrix.specs.Same.{Same, same_refl, same-trans, same-equal, same_add, same-mul, same_sum}
use Rattle.scheme.specs.Maps.{private_change}
use Rattle.scheme.specs.Parts.{vinegar-or-oil, change-vinegar, change-oil, change-past}
use Rattle.scheme.specs.Entries.{add_m-lt, products_lt}

-- the private change reads U inside l only, below n
pub private_change-same : (set : Set) (private : List ℕ) {U U' : ℕ → Matrix} → ((j : ℕ) → j < variables set → Same set.l (U j) (U' j))
    → (j : ℕ) → j < variables set → Same set.l (private_change set private U j) (private_change set private U' j)
private_change-same set private {U} {U'} e =
    vinegar-or-oil set.v set.o (λ j. Same set.l (private_change set private U j) (private_change set private U' j))
    (λ j h.
    same-trans (same-equal (change-vinegar set private U j h))
    (same-trans (same_add (e j (omega arith)) (same_sum set.o (λ k l. same-mul same_refl (e (set.v + k) (omega arith)))))
    (same-equal (sym (change-vinegar set private U' j h)))))
    (λ k h. same-trans (same-equal (change-oil set private U k)) (same-trans (e (set.v + k) (omega arith)) (same-equal (sym (change-oil set private U' k)))))

module _ (set : Set) where
  -- the private change keeps elements
  pub private_change-lt : (private : List ℕ) (U : ℕ → Matrix) (j r c : ℕ) → U j r c < 16 → private_change set private U j r c < 16
  private_change-lt private U j r c h =
      elim (dec_lt j set.v) [
        | yes l ↦ rw (change-vinegar set private U j l) (add_m-lt _ _ r c h (products_lt set.o set.l _ _ r c))
        | no l ↦ rw (change-past set private U j (omega arith)) h
      ]
