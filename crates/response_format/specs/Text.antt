-- What the program prints: count, mlen and smlen of each entry in decimal, a line each; at a refusal "refused" and the number, and nothing more.
-- Rests on Rules and Tells.
use Rattle.std.specs.Prelude.{List, [], ◌∷◌, ◌++◌, ℕ, zero, suc, ◌+◌, ◌/◌, ◌%◌, eqb}
use Rattle.ground.specs.Pick.{pick}
use Rattle.ground.specs.Answers.{code}
use Rattle.response_format.specs.Rules.{fault, after, refusal, cut}
use Rattle.response_format.specs.Tells.{closing, noted, no_numbers}
use Rattle.response_format.specs.declared.Numbers.{Numbers}
use Rattle.response_format.specs.declared.Event.{Event}
use Rattle.response_format.specs.declared.Event.TheVariants as event

-- the last d decimal digits of n, without zeros in front, before a text
unfoldable pub digits_before : ℕ → ℕ → List ℕ → List ℕ
digits_before zero n t = t
digits_before (suc d) n t = pick (eqb (n / 10) 0) ((48 + n % 10) ∷ t) (digits_before d (n / 10) ((48 + n % 10) ∷ t))

-- a number of 64 bits in decimal: it has at most 20 digits
abbrev pub decimal : ℕ → List ℕ → List ℕ
decimal n t = digits_before 20 n t

unfoldable pub entry_text : Numbers → List ℕ
entry_text e = decimal e.count (32 ∷ decimal e.mlen (32 ∷ decimal e.smlen (10 ∷ [])))

-- "refused ", the number
unfoldable pub refused_text : ℕ → List ℕ
refused_text n = 114 ∷ 101 ∷ 102 ∷ 117 ∷ 115 ∷ 101 ∷ 100 ∷ 32 ∷ decimal n (10 ∷ [])

unfoldable pub event_text : Event → List ℕ
event_text (event.Byte k b) = []
event_text (event.Number k n) = []
event_text (event.Ended k) = []
event_text (event.Entry e) = entry_text e
event_text (event.Refused r) = refused_text (code r)

unfoldable pub text_of : List Event → List ℕ
text_of [] = []
text_of (v ∷ vs) = event_text v ++ text_of vs

-- the refusal at a file's end, none for 0
unfoldable pub end_text : ℕ → List ℕ
end_text n = pick (eqb n 0) [] (refused_text n)

-- what is printed of the lines and the rest of a file
unfoldable pub printed : ℕ → Numbers → List (List ℕ) → List ℕ → List ℕ
printed k e [] rest = end_text (refusal k [] rest)
printed k e (l ∷ ls) rest = pick (eqb (fault k l) 0) (text_of (closing k e l) ++ printed (after k l) (noted k l e) ls rest) (refused_text (fault k l))

abbrev pub printed_of : List ℕ → List ℕ
printed_of f = printed 0 no_numbers (cut f).lines (cut f).rest
