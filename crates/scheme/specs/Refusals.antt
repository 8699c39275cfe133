-- The refusals of each operation on the buffers that it is lent, in their order: the lengths' rules, then what is asked of the contents (page 01, "Numbers a caller
-- can receive"). Rests on refusals' Rules and on Maps.
use Rattle.std.specs.Prelude.{List, [], ◌∷◌, ◌++◌, ℕ, length}
use Rattle.ground.specs.Answers.{Rule, unless}
use Rattle.ground.specs.declared.Refusal.TheVariants.{NotInvertible}
use Rattle.sets.specs.declared.Set.{Set}
use Rattle.refusals.specs.Rules.{keygen_rules, sign_rules, verdict_rules}
use Rattle.scheme.specs.Maps.{all_invertible}

-- 21: an A or B cannot be made invertible
abbrev pub invertible_rule : Set → (abq : List ℕ) → Rule
invertible_rule set abq = unless NotInvertible (all_invertible set abq)

module _ (set : Set) where
  -- key generation: 10, 11, 13, 20
  unfoldable pub keygen_refusals : (public private output : List ℕ) → List Rule
  keygen_refusals public private output = keygen_rules set (length public) (length private) (length output)

  -- signing: 10, 11, 12, 13, 14, 15, 17, 19, 20, 21
  unfoldable pub sign_refusals : (public abq private vinegar target salt work output : List ℕ) → List Rule
  sign_refusals public abq private vinegar target salt work output =
      sign_rules set (length public) (length abq) (length private) (length vinegar) (length target) (length salt) (length work) (length output)
      ++ (invertible_rule set abq ∷ [])

  -- the verdict: 10, 11, 12, 15, 16, 18, 21
  unfoldable pub verdict_refusals : (public abq target key signature : List ℕ) → List Rule
  verdict_refusals public abq target key signature =
      verdict_rules set (length public) (length abq) (length target) (length key) (length signature) ++ (invertible_rule set abq ∷ [])
