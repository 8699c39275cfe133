-- What the C functions of response files promise, and that no second outcome meets it.
-- Rests on Interface, and on Lent, Rules and Unique of response_format.
use Rattle.std.specs.Prelude.{◌≡◌, List, ℕ}
use Rattle.std.proofs.Common.{sym, ap, ◌∙◌}
use Rattle.ground.specs.Answers.{number_of}
use Rattle.ground.specs.Outcome.{unique-equation}
use Rattle.response_format.specs.Rules.{refusal_of}
use Rattle.response_format.specs.Lent.{Decodes}
use Rattle.response_format.specs.Unique.{unique-decode}
use Rattle.snova.specs.Interface.{Numbered}

abbrev pub DecodeHex : (digits bytes : List ℕ) (n : ℕ) (bytes' : List ℕ) → Type 0
DecodeHex digits bytes n bytes' = Numbered number_of (λ r. Decodes digits bytes r bytes') n

pub unique-snova-decode-hex : (digits bytes : List ℕ) {n n' : ℕ} {s s' : List ℕ} → DecodeHex digits bytes n s → DecodeHex digits bytes n' s' → (n ≡ n') × (s ≡ s')
unique-snova-decode-hex digits bytes a b =
    let u = unique-decode digits bytes a.meets b.meets in (a.is ∙ ap number_of u.0 ∙ sym b.is, u.1)

pub unique-snova-responses : (file : List ℕ) {n n' : ℕ} → n ≡ refusal_of file → n' ≡ refusal_of file → n ≡ n'
unique-snova-responses file = unique-equation
