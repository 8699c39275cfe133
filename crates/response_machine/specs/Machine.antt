-- The reader's machine, byte by byte: what the code does, as functions of the state and the byte. Nothing here has to be believed: response_format says what is
-- right, and proofs/Reading, Events and Seeks prove that the machine does it. Rests on Fields, Rules and Tells of response_format.
use Rattle.std.specs.Prelude.{Bool, true, false, List, [], ◌∷◌, ℕ, ◌+◌, ◌-◌, ◌*◌, ◌%◌, eqb, ltb, leb, length, get_or, Option, Some, None, Result, Ok, Err}
use Rattle.ground.specs.Pick.{pick, both}
use Rattle.ground.specs.Answers.{Answer}
use Rattle.ground.specs.declared.Refusal.{Refusal}
use Rattle.ground.specs.declared.Refusal.TheVariants.{BadLine, OddDigits, NotADigit, FieldOutOfOrder, NumberTooLarge}
use Rattle.response_format.specs.Fields.{digit_of, label, is_number}
use Rattle.response_format.specs.Rules.{whole}
use Rattle.response_format.specs.Tells.{keep, no_numbers}
use Rattle.response_machine.specs.declared.Line.{Line}
use Rattle.response_machine.specs.declared.Line.TheVariants.{Empty, Comment, Label, Other, Broken, NoDigit, Number, Pairs, Half, Stopped}
use Rattle.response_format.specs.declared.Numbers.{Numbers}
use Rattle.response_machine.specs.declared.Reader.{Reader}
use Rattle.response_machine.specs.declared.Closed.{Closed}
use Rattle.response_machine.specs.declared.Closed.TheVariants.{Gap, Skipped, Value, Bytes, Fault, Over}
use Rattle.response_format.specs.declared.Event.{Event}
use Rattle.response_format.specs.declared.Event.TheVariants as event
use Rattle.response_machine.specs.declared.Stepped.{Stepped}
use Rattle.response_machine.specs.declared.Fed.{Fed}
use Rattle.response_machine.specs.declared.Span.{Span}

-- one digit more; a number that is too large already stays so
unfoldable pub grown : ℕ → ℕ → ℕ
grown n d = pick (leb n 4294967295) (n * 10 + d) n

-- ---- in a line

-- how many bytes of " = " stand last after one more byte, 3 for ever once it stood
unfoldable pub found : ℕ → ℕ → ℕ
found j b = pick (eqb j 3) 3 (pick (eqb b 32) (pick (eqb j 2) 3 1) (pick (eqb b 61) (pick (eqb j 1) 2 0) 0))

-- how many of them are among the first i bytes of a label, which ends with them
unfoldable pub separator_at : ℕ → ℕ → ℕ
separator_at k i = pick (ltb i (length (label k))) (i + 3 - length (label k)) 0

unfoldable pub value_start : ℕ → Line
value_start k = pick (is_number k) NoDigit Pairs

-- one byte more, where the first i bytes of the label stand
unfoldable pub labelled : ℕ → ℕ → ℕ → Line
labelled k i b =
    pick (both (ltb i (length (label k))) (eqb b (get_or (label k) i 0)))
    (pick (eqb (i + 1) (length (label k))) (value_start k) (Label (i + 1)))
    (Other (found (separator_at k i) b))

unfoldable pub next : ℕ → Line → ℕ → Line
next k Empty b = pick (eqb b 35) Comment (labelled k 0 b)
next k Comment b = Comment
next k (Label i) b = labelled k i b
next k (Other j) b = Other (found j b)
next k Broken b = Broken
next k NoDigit b = pick (ltb (digit_of b) 10) (Number (digit_of b)) Broken
next k (Number n) b = pick (ltb (digit_of b) 10) (Number (grown n (digit_of b))) Broken
next k Pairs b = pick (ltb (digit_of b) 16) (Half (digit_of b)) Broken
next k (Half h) b = pick (ltb (digit_of b) 16) Pairs Broken
next k (Stopped r) b = Stopped r

-- the decoded byte that a digit completes, if it does
unfoldable pub handed : ℕ → Line → ℕ → Option Event
handed k Empty b = None
handed k Comment b = None
handed k (Label i) b = None
handed k (Other j) b = None
handed k Broken b = None
handed k NoDigit b = None
handed k (Number n) b = None
handed k Pairs b = None
handed k (Half h) b = pick (ltb (digit_of b) 16) (Some (event.Byte k (h % 16 * 16 + digit_of b))) None
handed k (Stopped n) b = None

-- ---- at a line feed

unfoldable pub closed : ℕ → Line → Closed
closed k Empty = pick (whole k) Gap (Fault FieldOutOfOrder)
closed k Comment = Skipped
closed k (Label i) = Fault BadLine
closed k (Other j) = Fault (pick (eqb j 3) FieldOutOfOrder BadLine)
closed k Broken = Fault NotADigit
closed k NoDigit = Fault NotADigit
closed k (Number n) = pick (leb n 4294967295) (Value n) (Fault NumberTooLarge)
closed k Pairs = Bytes
closed k (Half h) = Fault OddDigits
closed k (Stopped r) = Over r

unfoldable pub fields_after : ℕ → ℕ
fields_after k = pick (ltb k 8) (k + 1) 8

abbrev pub state : ℕ → Numbers → Line → Reader
state k e l = record { fields = k; numbers = e; line = l }

abbrev pub go : Reader → Option Event → Stepped
go r v = record { reader = r; event = v }

-- what the end of a field of bytes tells
abbrev pub field_end : ℕ → Numbers → Event
field_end k e = pick (eqb k 7) (event.Entry e) (event.Ended k)

unfoldable pub settled : ℕ → Numbers → Closed → Stepped
settled k e Gap = go (state 0 e Empty) None
settled k e Skipped = go (state k e Empty) None
settled k e (Value n) = go (state (fields_after k) (keep k n e) Empty) (Some (event.Number k n))
settled k e Bytes = go (state (fields_after k) e Empty) (Some (field_end k e))
settled k e (Fault r) = go (state k e (Stopped r)) (Some (event.Refused r))
settled k e (Over r) = go (state k e (Stopped r)) None

-- ---- a byte, a piece, the end

unfoldable pub stepped : Reader → ℕ → Stepped
stepped r b =
    pick (eqb b 10) (settled r.fields r.numbers (closed r.fields r.line))
    (go (state r.fields r.numbers (next r.fields r.line b)) (handed r.fields r.line b))

abbrev pub start : Reader
start = state 0 no_numbers Empty

-- the answer at the file's end
unfoldable pub ended : ℕ → Line → Answer
ended k Empty = pick (whole k) (Ok tt) (Err FieldOutOfOrder)
ended k Comment = Err BadLine
ended k (Label i) = Err BadLine
ended k (Other j) = Err BadLine
ended k Broken = Err BadLine
ended k NoDigit = Err BadLine
ended k (Number n) = Err BadLine
ended k Pairs = Err BadLine
ended k (Half h) = Err BadLine
ended k (Stopped r) = Err r

-- a line was refused
unfoldable pub is_stopped : Line → Bool
is_stopped Empty = false
is_stopped Comment = false
is_stopped (Label i) = false
is_stopped (Other j) = false
is_stopped Broken = false
is_stopped NoDigit = false
is_stopped (Number n) = false
is_stopped Pairs = false
is_stopped (Half h) = false
is_stopped (Stopped n) = true

-- ---- a piece

-- an event that a program of the entries waits for
unfoldable pub telling : Option Event → Bool
telling None = false
telling (Some (event.Byte k b)) = false
telling (Some (event.Number k n)) = false
telling (Some (event.Ended k)) = false
telling (Some (event.Entry e)) = true
telling (Some (event.Refused r)) = true

abbrev pub stop : Reader → Option Event → ℕ → Fed
stop r v i = record { reader = r; event = v; at = i }

-- the bytes p, which stand at i: up to the next telling event, or all
unfoldable pub feeds : Reader → ℕ → List ℕ → Fed
feeds r i [] = stop r None i
feeds r i (b ∷ p) =
    pick (telling (stepped r b).event) (stop (stepped r b).reader (stepped r b).event (i + 1)) (feeds (stepped r b).reader (i + 1) p)

-- ---- the search for field j, its bytes, of entry n

-- the event ends field j
unfoldable pub ending : ℕ → Option Event → Bool
ending j None = false
ending j (Some (event.Byte k b)) = false
ending j (Some (event.Number k n)) = false
ending j (Some (event.Ended k)) = eqb k j
ending j (Some (event.Entry e)) = eqb 7 j
ending j (Some (event.Refused r)) = false

-- how many entries are still to pass after the event
unfoldable pub passing : ℕ → Option Event → ℕ
passing n None = n
passing n (Some (event.Byte k b)) = n
passing n (Some (event.Number k m)) = n
passing n (Some (event.Ended k)) = n
passing n (Some (event.Entry e)) = n - 1
passing n (Some (event.Refused r)) = n

-- where the field's line stands; none where the file ends and nothing is at fault; or the refusal before it
abbrev pub Place : Type 0
Place = Result (Option Span) Refusal

abbrev pub between : ℕ → ℕ → Place
between a b = Ok (Some (record { from = a; to = b }))

abbrev pub nowhere : Answer → Place
nowhere (Ok x) = Ok None
nowhere (Err r) = Err r

-- the bytes p, which stand at i, in a line that begins at a: where the line of the field stands, without its line feed
unfoldable pub seeks : ℕ → ℕ → Reader → ℕ → ℕ → List ℕ → Place
seeks j n r a i [] = nowhere (ended r.fields r.line)
seeks j n r a i (b ∷ p) =
    pick (both (eqb n 0) (ending j (stepped r b).event)) (between a i)
    (seeks j (passing n (stepped r b).event) (stepped r b).reader (pick (eqb b 10) (i + 1) a) (i + 1) p)
