-- Page 01's own table and its cases of allowed and refused sets: each computed from the definitions.
-- Rests on Sets.
use Rattle.std.specs.Prelude.{◌≡◌, refl, true, false, List, [], ◌∷◌, ℕ}
use Rattle.sets.specs.declared.Set.{Set}
use Rattle.sets.specs.Sets.{
  allowed_set,
  terms,
  all_terms,
  unknowns,
  public_count,
  abq_count,
  private_count,
  vinegar_count,
  target_count,
  key_count,
  signature_count,
  public_bytes,
  abq_bytes,
  private_bytes,
  vinegar_bytes,
  target_bytes,
  key_bytes,
  signature_bytes,
  work_bytes,
}

abbrev pub set_of : ℕ → ℕ → ℕ → Set
set_of v o l = record { v = v; o = o; l = l }

-- a row of the table: public, ABQ, private, vinegar, target, key, signature, work
abbrev pub row_of : Set → List ℕ
row_of s =
    public_bytes s ∷ abq_bytes s ∷ private_bytes s ∷ vinegar_bytes s ∷ target_bytes s ∷ key_bytes s ∷ signature_bytes s ∷ work_bytes s ∷ []

pub table : row_of (set_of 24 5 4) ∷ row_of (set_of 25 8 3) ∷ row_of (set_of 37 17 2) ∷ row_of (set_of 1 1 2) ∷ []
    ≡ (32640 ∷ 2000 ∷ 240 ∷ 192 ∷ 40 ∷ 1000 ∷ 248 ∷ 12240 ∷ [])
    ∷ (36900 ∷ 1152 ∷ 300 ∷ 113 ∷ 36 ∷ 2304 ∷ 165 ∷ 10656 ∷ [])
    ∷ (89318 ∷ 612 ∷ 629 ∷ 74 ∷ 34 ∷ 9826 ∷ 124 ∷ 12240 ∷ [])
    ∷ (6 ∷ 36 ∷ 1 ∷ 2 ∷ 2 ∷ 2 ∷ 20 ∷ 32 ∷ [])
    ∷ []
unfolding
    terms all_terms unknowns public_count abq_count private_count vinegar_count target_count key_count signature_count public_bytes abq_bytes private_bytes vinegar_bytes target_bytes
    key_bytes signature_bytes work_bytes
table = refl

-- (60,10,4) is allowed, exactly 160; (33,33,4) is not, since 33·16 = 528; nor are l = 1 and l = 5, v = 0 and v = 76, o = 0 and o = 34
pub allowed-cases : allowed_set (set_of 60 10 4)
    ∷ allowed_set (set_of 33 33 4)
    ∷ allowed_set (set_of 24 5 1)
    ∷ allowed_set (set_of 24 5 5)
    ∷ allowed_set (set_of 0 5 4)
    ∷ allowed_set (set_of 76 5 4)
    ∷ allowed_set (set_of 24 0 4)
    ∷ allowed_set (set_of 24 34 2)
    ∷ []
    ≡ true ∷ false ∷ false ∷ false ∷ false ∷ false ∷ false ∷ false ∷ []
unfolding allowed_set
allowed-cases = refl

-- the nine round 2 sets with l up to 4 fit
pub round-2-sets : allowed_set (set_of 37 17 2)
    ∷ allowed_set (set_of 25 8 3)
    ∷ allowed_set (set_of 24 5 4)
    ∷ allowed_set (set_of 56 25 2)
    ∷ allowed_set (set_of 49 11 3)
    ∷ allowed_set (set_of 37 8 4)
    ∷ allowed_set (set_of 75 33 2)
    ∷ allowed_set (set_of 66 15 3)
    ∷ allowed_set (set_of 60 10 4)
    ∷ []
    ≡ true ∷ true ∷ true ∷ true ∷ true ∷ true ∷ true ∷ true ∷ true ∷ []
unfolding allowed_set
round-2-sets = refl
