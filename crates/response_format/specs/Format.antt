-- The format: what an accepted file is.
-- Rests on Fields.
use Rattle.std.specs.Prelude.{◌≡◌, true, false, ◌⊎◌, List, [], ◌∷◌, ◌++◌, ℕ, ◌+◌, ◌%◌, ◌<◌, ◌≤◌, length}
use Rattle.response_format.specs.Fields.{digit_of, numeral, label, is_number}

-- digits of a base, and nothing else
pub data Digits (base : ℕ) : List ℕ → Type 0 where
  none : Digits base []
  more : {b : ℕ} {v : List ℕ} → digit_of b < base → Digits base v → Digits base (b ∷ v)

-- the value of field k: a number in decimal, or bytes in hexadecimal, perhaps none
pub data Value (k : ℕ) (v : List ℕ) : Type 0 where
  number : is_number k ≡ true → 0 < length v → Digits 10 v → numeral 0 v ≤ 4294967295 → Value k v
  bytes : is_number k ≡ false → Digits 16 v → length v % 2 ≡ 0 → Value k v

-- an entry may end after its eight fields, and where none is begun there is nothing to end
abbrev pub Ends : ℕ → Type 0
Ends k = (k ≡ 0) ⊎ (k ≡ 8)

-- the lines that may follow where k fields of an entry are read
pub data Lines : ℕ → List (List ℕ) → Type 0 where
  end : {k : ℕ} → Ends k → Lines k []
  empty : {k : ℕ} {ls : List (List ℕ)} → Ends k → Lines 0 ls → Lines k ([] ∷ ls)
  comment : {k : ℕ} {l : List ℕ} {ls : List (List ℕ)} → Lines k ls → Lines k ((35 ∷ l) ∷ ls)
  field : {k : ℕ} {l v : List ℕ} {ls : List (List ℕ)} → k < 8 → l ≡ label k ++ v → Value k v → Lines (k + 1) ls → Lines k (l ∷ ls)

-- no line feed stands in it
pub data Free : List ℕ → Type 0 where
  free-none : Free []
  free_more : {b : ℕ} {l : List ℕ} → (b ≡ 10 → ⊥) → Free l → Free (b ∷ l)

pub data AllFree : List (List ℕ) → Type 0 where
  all_none : AllFree []
  all_more : {l : List ℕ} {ls : List (List ℕ)} → Free l → AllFree ls → AllFree (l ∷ ls)

-- the lines, each with its line feed, and more bytes
unfoldable pub join : List (List ℕ) → List ℕ → List ℕ
join [] rest = rest
join (l ∷ ls) rest = l ++ (10 ∷ join ls rest)

-- an accepted file: finished lines, from where no entry is begun
pub record Format (f : List ℕ) : Type 0 where
  pub lines : List (List ℕ)
  pub free : AllFree lines
  pub is : f ≡ join lines []
  pub ordered : Lines 0 lines
