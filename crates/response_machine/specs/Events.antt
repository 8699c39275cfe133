-- What a reader tells of a piece. proofs/Events proves that it is what the file says, byte by byte and however it is cut.
-- Rests on Machine.
use Rattle.std.specs.Prelude.{ℕ, Option, Some, None}
use mathlib.Core.List.{List, [], ◌∷◌, ◌++◌}
use Rattle.response_machine.specs.Machine.{stepped}
use Rattle.response_machine.specs.declared.Reader.{Reader}
use Rattle.response_format.specs.declared.Event.{Event}

unfoldable pub told : Option Event → List Event
told None = []
told (Some v) = v ∷ []

-- what a reader tells of a piece
unfoldable pub events : Reader → List ℕ → List Event
events r [] = []
events r (b ∷ p) = told (stepped r b).event ++ events (stepped r b).reader p
