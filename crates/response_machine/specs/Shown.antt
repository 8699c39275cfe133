-- What the program writes of a piece, and at the end. proofs/Shown proves that of a whole file it is what `printed` of response_format says.
-- Rests on Events and Reads.
use Rattle.std.specs.Prelude.{List, [], ℕ, Option, Some, None}
use Rattle.ground.specs.Pick.{pick}
use Rattle.ground.specs.Answers.{number_of}
use Rattle.response_format.specs.Text.{event_text, text_of, end_text}
use Rattle.response_machine.specs.Machine.{is_stopped}
use Rattle.response_machine.specs.Reads.{end_of}
use Rattle.response_machine.specs.Events.{events}
use Rattle.response_machine.specs.declared.Reader.{Reader}
use Rattle.response_format.specs.declared.Event.{Event}

-- what is written of a piece
unfoldable pub written : Reader → List ℕ → List ℕ
written r p = text_of (events r p)

-- what is written of what `feed` answers: the text of its event, and nothing where there is none
unfoldable pub part_text : Option Event → List ℕ
part_text None = []
part_text (Some v) = event_text v

-- what is written at the file's end: the refusal there, unless one was told before
unfoldable pub closing_text : Reader → List ℕ
closing_text r = pick (is_stopped r.line) [] (end_text (number_of (end_of r)))
