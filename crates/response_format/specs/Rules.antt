-- What is refused: the rules of a line, in the page's order, and the refusal of a file: the first line at fault decides, in it the first rule.
-- Rests on Fields, and on Answers of the crate ground.
use Rattle.std.specs.Prelude.{Bool, true, false, List, [], ◌∷◌, ℕ, ◌+◌, eqb, ltb, leb, length, drop}
use Rattle.ground.specs.Pick.{pick, both}
use Rattle.ground.specs.Answers.{Rule, unless, first}
use Rattle.ground.specs.declared.Refusal.TheVariants.{BadLine, OddDigits, NotADigit, FieldOutOfOrder, NumberTooLarge}
use Rattle.response_format.specs.Fields.{digit_of, numeral, label, is_number}

-- ---- tests of a line

-- the line begins with these bytes
unfoldable pub begins : List ℕ → List ℕ → Bool
begins [] l = true
begins (a ∷ p) [] = false
begins (a ∷ p) (b ∷ l) = both (eqb b a) (begins p l)

-- " = " stands somewhere in the line
unfoldable pub separated : List ℕ → Bool
separated [] = false
separated (b ∷ l) = pick (begins (32 ∷ 61 ∷ 32 ∷ []) (b ∷ l)) true (separated l)

-- every byte is a digit of this base
unfoldable pub all_digits : ℕ → List ℕ → Bool
all_digits n [] = true
all_digits n (b ∷ v) = both (ltb (digit_of b) n) (all_digits n v)

unfoldable pub some : List ℕ → Bool
some [] = false
some (b ∷ v) = true

-- the digits make pairs
unfoldable pub paired : List ℕ → Bool
paired [] = true
paired (a ∷ []) = false
paired (a ∷ b ∷ v) = paired v

-- ---- the rules of a line where k fields of the entry are read

-- what stands after the label of field k
abbrev pub value_in : ℕ → List ℕ → List ℕ
value_in k l = drop (length (label k)) l

abbrev pub number_rules : List ℕ → List Rule
number_rules v = unless NotADigit (both (some v) (all_digits 10 v)) ∷ unless NumberTooLarge (leb (numeral 0 v) 4294967295) ∷ []

abbrev pub bytes_rules : List ℕ → List Rule
bytes_rules v = unless NotADigit (all_digits 16 v) ∷ unless OddDigits (paired v) ∷ []

abbrev pub value_rules : ℕ → List ℕ → List Rule
value_rules k v = pick (is_number k) (number_rules v) (bytes_rules v)

-- a name ends at the first " = ", and no field's name holds a space: so the name is the next field's where the line begins with its label
unfoldable pub field_rules : ℕ → List ℕ → List Rule
field_rules k l =
    unless BadLine (separated l)
    ∷ unless FieldOutOfOrder (both (ltb k 8) (begins (label k) l))
    ∷ value_rules k (value_in k l)

-- no entry is begun, or all its fields are read
unfoldable pub whole : ℕ → Bool
whole k = pick (eqb k 0) true (eqb k 8)

-- an empty line ends an entry; a line that starts with # says nothing
unfoldable pub line_rules : ℕ → List ℕ → List Rule
line_rules k [] = unless FieldOutOfOrder (whole k) ∷ []
line_rules k (b ∷ l) = pick (eqb b 35) [] (field_rules k (b ∷ l))

abbrev pub fault : ℕ → List ℕ → ℕ
fault k l = first (line_rules k l)

-- how many fields of an entry are read after a sound line
unfoldable pub after : ℕ → List ℕ → ℕ
after k [] = 0
after k (b ∷ l) = pick (eqb b 35) k (k + 1)

-- ---- a file: its lines, each ended by a line feed, and what stands after the last line feed

pub record Cut : Type 0 where
  pub lines : List (List ℕ)
  pub rest : List ℕ

-- a byte that is no line feed belongs to the line that follows
unfoldable pub begun : ℕ → List (List ℕ) → List ℕ → Cut
begun b [] rest = record { lines = []; rest = b ∷ rest }
begun b (l ∷ ls) rest = record { lines = (b ∷ l) ∷ ls; rest = rest }

unfoldable pub cut : List ℕ → Cut
cut [] = record { lines = []; rest = [] }
cut (b ∷ f) = pick (eqb b 10) (record { lines = [] ∷ (cut f).lines; rest = (cut f).rest }) (begun b (cut f).lines (cut f).rest)

-- the refusal of a file where k fields are read, 0 for none: the first line at fault decides
unfoldable pub refusal : ℕ → List (List ℕ) → List ℕ → ℕ
refusal k [] [] = pick (whole k) 0 33
refusal k [] (b ∷ rest) = 30
refusal k (l ∷ ls) rest = pick (eqb (fault k l) 0) (refusal (after k l) ls rest) (fault k l)

abbrev pub refusal_of : List ℕ → ℕ
refusal_of f = refusal 0 (cut f).lines (cut f).rest
