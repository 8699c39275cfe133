-- What follows where nothing is refused: every rule that was looked at is met.
-- Rests on ground's Lowest.
use Rattle.std.specs.Prelude.{◌≡◌, true, List, [], ◌∷◌, ℕ, eqb, length}
use Rattle.std.proofs.Common.{arith, eqb-true, eq-eqb}
use Rattle.ground.specs.Answers.{unless, first, met-none, met-more, first-met}
use Rattle.ground.specs.declared.Refusal.TheVariants.{CountsDiffer, AboveFifteen}
use Rattle.ground.specs.First.{first_passes}
use Rattle.packing.specs.Packing.{packed_bytes, in_field, pack_rules, unpack_rules}

-- what packing and unpacking may build on
pub pack-allowed : (elements bytes : List ℕ) → first (pack_rules elements bytes) ≡ 0 → (length bytes ≡ packed_bytes (length elements)) × (in_field elements ≡ true)
unfolding pack_rules
pack-allowed elements bytes e =
    let counts = first_passes CountsDiffer (eqb (length bytes) (packed_bytes (length elements))) (unless AboveFifteen (in_field elements) ∷ []) e in
    (eqb-true _ _ counts.0, (first_passes AboveFifteen (in_field elements) [] counts.1).0)

pub unpack-allowed : (bytes elements : List ℕ) → first (unpack_rules bytes elements) ≡ 0 → length bytes ≡ packed_bytes (length elements)
unfolding unpack_rules
unpack-allowed bytes elements e =
    eqb-true _ _ (first_passes CountsDiffer (eqb (length bytes) (packed_bytes (length elements))) [] e).0

-- counts that fit are the one thing that unpacking asks
pub unpack-fits : (bytes elements : List ℕ) → length bytes ≡ packed_bytes (length elements) → first (unpack_rules bytes elements) ≡ 0
unfolding unpack_rules
unpack-fits bytes elements e = first-met (met-more (eq-eqb _ _ e) met-none)
