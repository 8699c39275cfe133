-- No second outcome meets a contract of a line's code; that of `decode` is in response_format.
-- Rests on Fields and Rules of response_format, Machine of response_machine, and Outcome of the crate ground.
use Rattle.std.specs.Prelude.{◌≡◌, Bool, Option, ℕ, length, get_or}
use Rattle.ground.specs.Outcome.{unique-equation}
use Rattle.response_format.specs.Fields.{digit_of, label, is_number}
use Rattle.response_format.specs.Rules.{whole}
use Rattle.response_format.specs.declared.Event.{Event}
use Rattle.response_machine.specs.Machine.{next, handed, closed}
use Rattle.response_machine.specs.declared.Line.{Line}
use Rattle.response_machine.specs.declared.Closed.{Closed}

pub unique-digit : (b : ℕ) {r r' : ℕ} → r ≡ digit_of b → r' ≡ digit_of b → r ≡ r'
unique-digit b = unique-equation

pub unique-label-length : (k : ℕ) {r r' : ℕ} → r ≡ length (label k) → r' ≡ length (label k) → r ≡ r'
unique-label-length k = unique-equation

pub unique-label-byte : (k i : ℕ) {r r' : ℕ} → r ≡ get_or (label k) i 0 → r' ≡ get_or (label k) i 0 → r ≡ r'
unique-label-byte k i = unique-equation

pub unique-is-number : (k : ℕ) {r r' : Bool} → r ≡ is_number k → r' ≡ is_number k → r ≡ r'
unique-is-number k = unique-equation

pub unique-next : (k : ℕ) (s : Line) (b : ℕ) {r r' : Line} → r ≡ next k s b → r' ≡ next k s b → r ≡ r'
unique-next k s b = unique-equation

pub unique-handed : (k : ℕ) (s : Line) (b : ℕ) {r r' : Option Event} → r ≡ handed k s b → r' ≡ handed k s b → r ≡ r'
unique-handed k s b = unique-equation

pub unique-whole : (k : ℕ) {r r' : Bool} → r ≡ whole k → r' ≡ whole k → r ≡ r'
unique-whole k = unique-equation

pub unique-close : (k : ℕ) (s : Line) {r r' : Closed} → r ≡ closed k s → r' ≡ closed k s → r ≡ r'
unique-close k s = unique-equation
