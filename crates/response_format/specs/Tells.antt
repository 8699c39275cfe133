-- What a file tells, line by line: bytes, numbers, the ends of fields and entries, the refusal.
-- A field's decoded bytes come as their digits come, so those of a line that turns out to be at fault come too: they stand only once Ended or Entry follows.
-- Rests on Rules.
use Rattle.std.specs.Prelude.{List, [], ◌∷◌, ◌++◌, map, ℕ, ◌+◌, ◌*◌, eqb, ltb, Result, Ok, Err}
use Rattle.ground.specs.Pick.{pick, both}
use Rattle.response_format.specs.Given.{given}
use Rattle.ground.specs.declared.Refusal.{Refusal}
use Rattle.response_format.specs.Fields.{digit_of, numeral, label, is_number}
use Rattle.response_format.specs.Rules.{begins, value_in, line_rules, after}
use Rattle.response_format.specs.declared.Numbers.{Numbers}
use Rattle.response_format.specs.declared.Event.{Event}
use Rattle.response_format.specs.declared.Event.TheVariants as event

-- the bytes of the digit pairs, up to the first byte that is no digit
unfoldable pub decoded : List ℕ → List ℕ
decoded [] = []
decoded (a ∷ []) = []
decoded (a ∷ b ∷ v) = pick (both (ltb (digit_of a) 16) (ltb (digit_of b) 16)) ((digit_of a * 16 + digit_of b) ∷ decoded v) []

unfoldable pub value_bytes : ℕ → List ℕ → List Event
value_bytes k v = pick (is_number k) [] (map (λ x. event.Byte k x) (decoded v))

unfoldable pub field_bytes : ℕ → List ℕ → List Event
field_bytes k m = pick (both (ltb k 8) (begins (label k) m)) (value_bytes k (value_in k m)) []

-- the bytes that a line hands out where k fields are read
unfoldable pub line_bytes : ℕ → List ℕ → List Event
line_bytes k [] = []
line_bytes k (b ∷ l) = pick (eqb b 35) [] (field_bytes k (b ∷ l))

-- what the line of field k tells at its end
unfoldable pub value_closing : ℕ → Numbers → List ℕ → List Event
value_closing k e v = pick (is_number k) (event.Number k (numeral 0 v)) (pick (eqb k 7) (event.Entry e) (event.Ended k)) ∷ []

-- and what a sound line tells at its end
unfoldable pub closing : ℕ → Numbers → List ℕ → List Event
closing k e [] = []
closing k e (b ∷ l) = pick (eqb b 35) [] (value_closing k e (value_in k (b ∷ l)))

-- the entry's numbers, with n for field k
unfoldable pub keep : ℕ → ℕ → Numbers → Numbers
keep k n e =
    record {
      count = pick (eqb k 0) n e.count;
      mlen = pick (eqb k 2) n e.mlen;
      smlen = pick (eqb k 6) n e.smlen;
    }

-- the entry's numbers after a sound line
unfoldable pub noted : ℕ → List ℕ → Numbers → Numbers
noted k [] e = e
noted k (b ∷ l) e = pick (eqb b 35) e (pick (is_number k) (keep k (numeral 0 (value_in k (b ∷ l))) e) e)

-- what is told, or the refusal alone
abbrev pub or_refused : Result (List Event) Refusal → List Event
or_refused (Ok vs) = vs
or_refused (Err r) = event.Refused r ∷ []

-- what the lines and the rest of a file tell, up to the first line at fault
unfoldable pub tells : ℕ → Numbers → List (List ℕ) → List ℕ → List Event
tells k e [] rest = line_bytes k rest
tells k e (l ∷ ls) rest =
    line_bytes k l ++ or_refused (given (line_rules k l) (closing k e l ++ tells (after k l) (noted k l e) ls rest))

-- before the first number of a file
abbrev pub no_numbers : Numbers
no_numbers = record { count = 0; mlen = 0; smlen = 0 }
