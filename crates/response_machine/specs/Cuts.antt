-- A file in pieces, whatever they are: the reader after them, and what it tells of them. proofs/Cuts proves that it is what the whole gives.
-- Rests on Reads and Events.
use Rattle.std.specs.Prelude.{List, [], ◌∷◌, ◌++◌, ℕ}
use Rattle.response_machine.specs.Reads.{fed}
use Rattle.response_machine.specs.Events.{events}
use Rattle.response_machine.specs.declared.Reader.{Reader}
use Rattle.response_format.specs.declared.Event.{Event}

-- the pieces, put together
unfoldable pub together : List (List ℕ) → List ℕ
together [] = []
together (p ∷ ps) = p ++ together ps

-- the reader after one piece and then the others
unfoldable pub fed_pieces : Reader → List (List ℕ) → Reader
fed_pieces r [] = r
fed_pieces r (p ∷ ps) = fed_pieces (fed r p) ps

-- and what it tells of them
unfoldable pub events_pieces : Reader → List (List ℕ) → List Event
events_pieces r [] = []
events_pieces r (p ∷ ps) = events r p ++ events_pieces (fed r p) ps
