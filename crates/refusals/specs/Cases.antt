-- Page 01's cases of a signature's length: computed from the definitions.
-- Rests on Rules.
use Rattle.std.specs.Prelude.{◌≡◌, refl, [], ◌∷◌}
use Rattle.ground.specs.Answers.{first}
use Rattle.sets.specs.Sets.{allowed_set, signature_count, signature_bytes}
use Rattle.sets.specs.Table.{set_of}
use Rattle.refusals.specs.Rules.{salt_rules}

-- a signature of 247 or 249 bytes for (24,5,4) is 18
pub salt-cases : first (salt_rules (set_of 24 5 4) 247)
    ∷ first (salt_rules (set_of 24 5 4) 248)
    ∷ first (salt_rules (set_of 24 5 4) 249)
    ∷ first (salt_rules (set_of 33 33 4) 248)
    ∷ []
    ≡ 18 ∷ 0 ∷ 18 ∷ 10 ∷ []
unfolding first salt_rules allowed_set signature_bytes signature_count
salt-cases = refl
