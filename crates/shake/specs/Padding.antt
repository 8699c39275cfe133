-- The padding in bytes: where a block lacks n bytes, 1F, then zeros, then 80; where it lacks one, 9F.
-- That these are the bytes of the bits which follow a message is proved in proofs/Ending. Rests on the kit's lists.
use Rattle.std.specs.Prelude.{◌≡◌, List, [], ◌∷◌, ◌++◌, ℕ, suc, ◌-◌, ◌<◌, eqb, replicate}
use Rattle.std.proofs.Math.Path.{sym, ap}
use Rattle.std.proofs.Common.{◌∙◌, arith, eq-eqb, ne_eqb, length-append}
use Rattle.std.proofs.Math.Decide.{ℕ_discrete}
use Rattle.std.proofs.Math.ListN.{length}
use Rattle.std.proofs.lemmas.List.{length-replicate}
use Rattle.ground.specs.Pick.{pick}

-- the padding of the n bytes, 0 < n, that the last block lacks
unfoldable pub padding : ℕ → List ℕ
padding n = pick (eqb n 1) (159 ∷ []) (31 ∷ (replicate (n - 2) 0 ++ (128 ∷ [])))

pub padding-one : (n : ℕ) → n ≡ 1 → padding n ≡ 159 ∷ []
unfolding padding
padding-one n e = rw (eq-eqb n 1 e)

pub padding-more : (n : ℕ) → (n ≡ 1 → ⊥) → padding n ≡ 31 ∷ (replicate (n - 2) 0 ++ (128 ∷ []))
unfolding padding
padding-more n e = rw (ne_eqb n 1 e)

pub length-padding : (n : ℕ) → 0 < n → length (padding n) ≡ n
length-padding n h =
    elim (ℕ_discrete n 1) [
      | yes e ↦ ap length (padding-one n e) ∙ sym e
      | no e ↦
          let zeros : length (replicate {A = ℕ} (n - 2) 0) ≡ n - 2 = length-replicate {A = ℕ} (n - 2) 0 in
          ap length (padding-more n e) ∙ ap suc (length-append (replicate {A = ℕ} (n - 2) 0) (128 ∷ [])) ∙ omega arith
    ]
