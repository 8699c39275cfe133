-- A system of n equations over GF(16), as elimination finds it in a lent area, and what elimination promises of its answer and of the area.
-- Row r of n + 1 bytes is equation r: n coefficients, then the right-hand element. Rests on field's products and algebra's sums.
use Rattle.std.specs.Prelude.{◌≡◌, ◌≢◌, Result, Ok, Err, List, ℕ, ◌+◌, ◌*◌, ◌<◌, ◌≤◌, length, get_or}
use Rattle.sets.specs.Sets.{most_row}
use Rattle.field.specs.Field.{add, mul}
use Rattle.algebra.specs.Sum.{sum}
use Rattle.linear.specs.declared.Singular.{Singular}

-- entry c of row r; column n is the right-hand side
unfoldable pub at : List ℕ → ℕ → ℕ → ℕ → ℕ
at g n r c = get_or g (r * (n + 1) + c) 0

-- the coefficients of row r applied to the vector y
unfoldable pub apply : List ℕ → ℕ → (ℕ → ℕ) → ℕ → ℕ
apply g n y r = sum 0 add n (λ c. mul (at g n r c) (y c))

-- what elimination asks of the area that it is lent
pub record Area (g : List ℕ) (n : ℕ) : Type 0 where
  pub limit : n ≤ most_row
  pub fits : n * (n + 1) ≤ length g
  pub small : (r c : ℕ) → r < n → c ≤ n → at g n r c < 16

-- s has elements of the field, solves every equation, and is the only vector that does; and only the zero vector is sent to zero
pub record Solution (g : List ℕ) (n : ℕ) (s : ℕ → ℕ) : Type 0 where
  pub small : (c : ℕ) → c < n → s c < 16
  pub solves : (r : ℕ) → r < n → apply g n s r ≡ at g n r n
  pub only : (y : ℕ → ℕ) → ((c : ℕ) → c < n → y c < 16) → ((r : ℕ) → r < n → apply g n y r ≡ at g n r n) → (c : ℕ) → c < n → y c ≡ s c
  pub trivial : (y : ℕ → ℕ) → ((c : ℕ) → c < n → y c < 16) → ((r : ℕ) → r < n → apply g n y r ≡ 0) → (c : ℕ) → c < n → y c ≡ 0

-- a vector that is not zero and that every row sends to zero
pub record Kernel (g : List ℕ) (n : ℕ) : Type 0 where
  pub y : ℕ → ℕ
  pub small : (c : ℕ) → c < n → y c < 16
  pub place : ℕ
  pub inside : place < n
  pub nonzero : y place ≢ 0
  pub sent : (r : ℕ) → r < n → apply g n y r ≡ 0

-- the one value of Singular
abbrev pub singular : Singular
singular = record {}

-- What elimination promises: g is the area at entry, h at exit. A solution stands in column n.
pub record Eliminated (g : List ℕ) (n : ℕ) (r : Result Unit Singular) (h : List ℕ) : Type 0 where
  pub solved : r ≡ Ok tt → Solution g n (λ c. at h n c n)
  pub singular : r ≡ Err singular → Kernel g n
  pub past : (k : ℕ) → n * (n + 1) ≤ k → get_or h k 0 ≡ get_or g k 0
  pub long : length h ≡ length g
