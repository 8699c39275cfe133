-- The reader after a piece, and its answer at the end. proofs/Reading proves that of a whole file it is the file's refusal, however the file is cut.
-- Rests on Machine.
use Rattle.std.specs.Prelude.{ℕ}
use Rattle.ground.specs.Answers.{Answer}
use mathlib.Core.List.{List, [], ◌∷◌}
use Rattle.response_machine.specs.Machine.{stepped, ended}
use Rattle.response_machine.specs.declared.Reader.{Reader}

-- the reader after a piece
unfoldable pub fed : Reader → List ℕ → Reader
fed r [] = r
fed r (b ∷ p) = fed (stepped r b).reader p

abbrev pub end_of : Reader → Answer
end_of r = ended r.fields r.line
