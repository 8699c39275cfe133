-- The eight fields, their labels and their digits: page 02, Req 01.
-- Rests on nothing.
use Rattle.std.specs.Prelude.{Bool, true, List, [], ◌∷◌, ℕ, ◌+◌, ◌-◌, ◌*◌, eqb, ltb}
use Rattle.ground.specs.Pick.{pick}

-- the value of a digit, 0 to 9, A to F, a to f; 16 for any other byte
unfoldable pub digit_of : ℕ → ℕ
digit_of b =
    pick (ltb b 48) 16
    (pick (ltb b 58) (b - 48)
    (pick (ltb b 65) 16
    (pick (ltb b 71) (b - 55)
    (pick (ltb b 97) 16
    (pick (ltb b 103) (b - 87) 16)))))

-- the decimal number of the digits, after n
unfoldable pub numeral : ℕ → List ℕ → ℕ
numeral n [] = n
numeral n (b ∷ v) = numeral (n * 10 + digit_of b) v

-- the label of a field: its name and " = ". count, seed, mlen, msg, pk, sk, smlen, sm
unfoldable pub label : ℕ → List ℕ
label k =
    pick (eqb k 0) (99 ∷ 111 ∷ 117 ∷ 110 ∷ 116 ∷ 32 ∷ 61 ∷ 32 ∷ [])
    (pick (eqb k 1) (115 ∷ 101 ∷ 101 ∷ 100 ∷ 32 ∷ 61 ∷ 32 ∷ [])
    (pick (eqb k 2) (109 ∷ 108 ∷ 101 ∷ 110 ∷ 32 ∷ 61 ∷ 32 ∷ [])
    (pick (eqb k 3) (109 ∷ 115 ∷ 103 ∷ 32 ∷ 61 ∷ 32 ∷ [])
    (pick (eqb k 4) (112 ∷ 107 ∷ 32 ∷ 61 ∷ 32 ∷ [])
    (pick (eqb k 5) (115 ∷ 107 ∷ 32 ∷ 61 ∷ 32 ∷ [])
    (pick (eqb k 6) (115 ∷ 109 ∷ 108 ∷ 101 ∷ 110 ∷ 32 ∷ 61 ∷ 32 ∷ [])
    (pick (eqb k 7) (115 ∷ 109 ∷ 32 ∷ 61 ∷ 32 ∷ []) [])))))))

-- a field that is a number: count, mlen, smlen
unfoldable pub is_number : ℕ → Bool
is_number k = pick (eqb k 0) true (pick (eqb k 2) true (eqb k 6))
