-- What is written into a lent output: a value decoded, and one field of a file collected.
-- Rests on Rules and Tells, and on Answers and Outcome of the crate ground.
use Rattle.std.specs.Prelude.{◌≡◌, Bool, false, not, List, [], ◌∷◌, ℕ, ◌-◌, ◌/◌, eqb, length, Result, Ok, Err}
use Rattle.ground.specs.Pick.{pick, both}
use Rattle.ground.specs.Answers.{code, Answer, Rule, unless, first, Gives}
use Rattle.ground.specs.declared.Refusal.{Refusal}
use Rattle.ground.specs.declared.Refusal.TheVariants.{OutputLength, OddDigits, NotADigit}
use Rattle.ground.specs.Outcome.{Writes}
use Rattle.response_format.specs.Fields.{is_number}
use Rattle.response_format.specs.Rules.{all_digits, paired, value_in, fault, after, refusal, cut}
use Rattle.response_format.specs.Tells.{decoded}
use Rattle.response_format.specs.declared.Collected.{Collected}
use Rattle.response_format.specs.declared.Collected.TheVariants.{Written, Absent}

-- ---- a value

unfoldable pub decode_rules : List ℕ → List ℕ → List Rule
decode_rules digits out = unless NotADigit (all_digits 16 digits) ∷ unless OddDigits (paired digits) ∷ unless OutputLength (eqb (length out) (length digits / 2)) ∷ []

-- the bytes where nothing is refused, and else the output as it was
abbrev pub Decodes : List ℕ → List ℕ → Answer → List ℕ → Type 0
Decodes digits before r after = Writes (first (decode_rules digits before)) (decoded digits) before r after

-- ---- field j of entry n of a file, both counted from 0

-- its value, or none: the refusal that stands before it, 0 where the file ends and nothing is at fault
pub data Sought : Type 0 where
  value : List ℕ → Sought
  none : ℕ → Sought

-- the line of a field whose value is bytes
unfoldable pub is_bytes : ℕ → List ℕ → Bool
is_bytes k [] = false
is_bytes k (b ∷ l) = pick (eqb b 35) false (not (is_number k))

-- how many entries are still to pass after a sound line: one less after sm
unfoldable pub left : ℕ → ℕ → List ℕ → ℕ
left n k l = pick (both (is_bytes k l) (eqb k 7)) (n - 1) n

unfoldable pub sought : ℕ → ℕ → ℕ → List (List ℕ) → List ℕ → Sought
sought j n k [] rest = none (refusal k [] rest)
sought j n k (l ∷ ls) rest =
    pick (eqb (fault k l) 0)
    (pick (both (is_bytes k l) (both (eqb k j) (eqb n 0))) (value (value_in k l)) (sought j (left n k l) (after k l) ls rest))
    (none (fault k l))

abbrev pub sought_in : List ℕ → ℕ → ℕ → Sought
sought_in f n j = sought j n 0 (cut f).lines (cut f).rest

-- why it is not collected: what stands before it, or 20, an output of another length
unfoldable pub collect_refusal : Sought → List ℕ → ℕ
collect_refusal (value v) before = pick (eqb (length before) (length v / 2)) 0 20
collect_refusal (none n) before = n

-- and where nothing is refused: written, or absent
unfoldable pub collected : Sought → Collected
collected (value v) = Written
collected (none n) = Absent

unfoldable pub contents : Sought → List ℕ → List ℕ
contents (value v) before = pick (eqb (length before) (length v / 2)) (decoded v) before
contents (none n) before = before

-- what collecting a field promises of its answer and of the output
pub record Collects (file : List ℕ) (n j : ℕ) (before : List ℕ) (r : Result Collected Refusal) (after : List ℕ) : Type 0 where
  pub answer : Gives (collect_refusal (sought_in file n j) before) (collected (sought_in file n j)) r
  pub output : after ≡ contents (sought_in file n j) before

-- the page's number: a field that is not there is a missing one
abbrev pub collected_number : Result Collected Refusal → ℕ
collected_number (Ok Written) = 0
collected_number (Ok Absent) = 33
collected_number (Err r) = code r
