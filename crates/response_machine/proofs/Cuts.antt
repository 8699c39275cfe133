-- However a file is cut: fed in pieces, whatever they are, the reader is where the whole brings it, and tells what the whole tells.
-- Rests on Reading and Events.
use Rattle.std.specs.Prelude.{◌≡◌, refl, List, [], ◌∷◌, ◌++◌, ℕ}
use Rattle.std.proofs.Common.{sym, ap, ◌∙◌}
use Rattle.ground.specs.Answers.{number_of}
use Rattle.response_format.specs.Rules.{refusal_of}
use Rattle.response_machine.specs.Machine.{start}
use Rattle.response_machine.specs.Reads.{fed, end_of}
use Rattle.response_machine.proofs.Reading.{fed-append, reads}
use Rattle.response_machine.specs.Events.{events}
use Rattle.response_machine.proofs.Events.{events-append}
use Rattle.response_machine.specs.declared.Reader.{Reader}
use Rattle.response_machine.specs.Cuts.{events_pieces, fed_pieces, together}

pub fed-pieces : (r : Reader) (ps : List (List ℕ)) → fed_pieces r ps ≡ fed r (together ps)
unfolding together fed_pieces fed
fed-pieces r [] = refl
fed-pieces r (p ∷ ps) = fed-pieces (fed r p) ps ∙ sym (fed-append r p (together ps))

pub events-pieces : (r : Reader) (ps : List (List ℕ)) → events_pieces r ps ≡ events r (together ps)
unfolding together events_pieces events
events-pieces r [] = refl
events-pieces r (p ∷ ps) = ap (λ x. events r p ++ x) (events-pieces (fed r p) ps) ∙ sym (events-append r p (together ps))

-- so the answer at the end is the refusal of the whole file
pub reads-pieces : (ps : List (List ℕ)) → number_of (end_of (fed_pieces start ps)) ≡ refusal_of (together ps)
reads-pieces ps = ap (λ r. number_of (end_of r)) (fed-pieces start ps) ∙ reads (together ps)
