-- No second outcome meets a contract of the reader.
-- Rests on Machine and Reads of response_machine, and on Outcome of the crate ground.
use Rattle.std.specs.Prelude.{◌≡◌, Bool, List, ℕ, drop}
use Rattle.ground.specs.Answers.{Answer, number_of}
use Rattle.ground.specs.AnswerLaws.{unique-answer}
use Rattle.ground.specs.Outcome.{unique-equation}
use Rattle.response_format.specs.Rules.{refusal_of}
use Rattle.response_machine.specs.Machine.{start, stepped, feeds, ended, is_stopped, Place, seeks}
use Rattle.response_machine.specs.Reads.{fed}
use Rattle.response_machine.specs.declared.Reader.{Reader}
use Rattle.response_machine.specs.declared.Stepped.{Stepped}
use Rattle.response_machine.specs.declared.Fed.{Fed}
use Rattle.responses.specs.Placed.{placed}
use Rattle.responses.specs.declared.Text.{Text}

pub unique-start : {r r' : Reader} → r ≡ start → r' ≡ start → r ≡ r'
unique-start = unique-equation

pub unique-step : (s : Reader) (b : ℕ) {r r' : Stepped} → r ≡ stepped s b → r' ≡ stepped s b → r ≡ r'
unique-step s b = unique-equation

pub unique-end : (s : Reader) {r r' : Answer} → r ≡ ended s.fields s.line → r' ≡ ended s.fields s.line → r ≡ r'
unique-end s = unique-equation

pub unique-feed : (s : Reader) (p : List ℕ) (i : ℕ) {r r' : Fed} → r ≡ feeds s i (drop i p) → r' ≡ feeds s i (drop i p) → r ≡ r'
unique-feed s p i = unique-equation

pub unique-absorb : (s : Reader) (p : List ℕ) {r r' : Reader} → r ≡ fed s p → r' ≡ fed s p → r ≡ r'
unique-absorb s p = unique-equation

pub unique-is-stopped : (s : Reader) {r r' : Bool} → r ≡ is_stopped s.line → r' ≡ is_stopped s.line → r ≡ r'
unique-is-stopped s = unique-equation

pub unique-refusal : (f : List ℕ) {r r' : Answer} → number_of r ≡ refusal_of f → number_of r' ≡ refusal_of f → r ≡ r'
unique-refusal f = unique-answer

pub unique-find : (f : List ℕ) (n j : ℕ) {r r' : Place} → r ≡ seeks j n start 0 0 f → r' ≡ seeks j n start 0 0 f → r ≡ r'
unique-find f n j = unique-equation

pub unique-text : (t : List ℕ) {r r' : Text} → r ≡ placed t → r' ≡ placed t → r ≡ r'
unique-text t = unique-equation
