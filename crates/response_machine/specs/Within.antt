-- A line: the machine's state after the line's bytes, and what the line comes to by its rules. proofs/Within proves that both say the same.
-- Rests on Rules and Machine.
use Rattle.std.specs.Prelude.{List, [], ◌∷◌, ℕ, eqb, Result, Ok, Err}
use Rattle.ground.specs.Pick.{pick}
use Rattle.ground.specs.Answers.{Rule}
use Rattle.response_format.specs.Given.{given}
use Rattle.ground.specs.declared.Refusal.{Refusal}
use Rattle.response_format.specs.Fields.{numeral, is_number}
use Rattle.response_format.specs.Rules.{value_in, field_rules, line_rules}
use Rattle.response_machine.specs.Machine.{next}
use Rattle.response_machine.specs.declared.Line.{Line}
use Rattle.response_machine.specs.declared.Closed.{Closed}
use Rattle.response_machine.specs.declared.Closed.TheVariants.{Gap, Skipped, Value, Bytes, Fault}

-- the line after more bytes
unfoldable pub within : ℕ → Line → List ℕ → Line
within k s [] = s
within k s (b ∷ l) = within k (next k s b) l

-- what rules come to: the refusal of the first that is not met, or the good outcome
abbrev pub or_fault : Result Closed Refusal → Closed
or_fault (Ok good) = good
or_fault (Err r) = Fault r

unfoldable pub outcome : List Rule → Closed → Closed
outcome rules good = or_fault (given rules good)

unfoldable pub value_of : ℕ → List ℕ → Closed
value_of k v = pick (is_number k) (Value (numeral 0 v)) Bytes

unfoldable pub field_outcome : ℕ → List ℕ → Closed
field_outcome k m = outcome (field_rules k m) (value_of k (value_in k m))

-- what a sound line is
unfoldable pub sound : ℕ → List ℕ → Closed
sound k [] = Gap
sound k (b ∷ l) = pick (eqb b 35) Skipped (value_of k (value_in k (b ∷ l)))

-- what a line is: its first fault, or what a sound line is
unfoldable pub means : ℕ → List ℕ → Closed
means k l = outcome (line_rules k l) (sound k l)
