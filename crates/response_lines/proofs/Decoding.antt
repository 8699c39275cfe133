-- `all_digits` as a test of each byte, pairs as an even count, and `decode` by its answer: over plain variables, so that its proof needs no answer.
-- Rests on Rules and Decode of response_format, and on AnswerLaws of the crate ground.
use Rattle.std.specs.Prelude.{◌≡◌, refl, Bool, true, false, ◌&&◌, List, [], ◌∷◌, ℕ, ◌*◌, ◌%◌, eqb, length, Ok, Err}
use Rattle.std.proofs.Common.{sym, ap, ◌∙◌, ltb, arith}
use Rattle.std.proofs.lemmas.Bool.Decides.{nat_tests}
use Rattle.std.specs.Char.{is_ascii_hexdigit}
use Rattle.std.specs.List.{list_all}
use Rattle.ground.specs.Pick.{both}
use Rattle.ground.specs.Answers.{code, first}
use Rattle.ground.specs.AnswerLaws.{code-some}
use Rattle.ground.specs.Fill.{tab}
use Rattle.ground.specs.declared.Refusal.{Refusal}
use Rattle.response_format.specs.Fields.{digit_of}
use Rattle.response_format.specs.Rules.{all_digits, paired}
use Rattle.response_format.specs.Lent.{decode_rules, Decodes}
use Rattle.response_format.specs.Decode.{paired-even, decode-allowed, decoded-tab, pair_at}

-- the library's test of a byte is this page's
hex-digit : (b : ℕ) → is_ascii_hexdigit b ≡ ltb (digit_of b) 16
unfolding digit_of
hex-digit b = grind (arith, nat_tests)

pub each_digit : (v : List ℕ) → list_all is_ascii_hexdigit v ≡ all_digits 16 v
unfolding all_digits
each_digit [] = refl
each_digit (b ∷ v) = ap (λ x. is_ascii_hexdigit b && x) (each_digit v) ∙ ap (λ x. x && all_digits 16 v) (hex-digit b) ∙ same (ltb (digit_of b) 16) (all_digits 16 v)
  where
    same : (x y : Bool) → (x && y) ≡ both x y
    same true y = refl
    same false y = refl

pub even_pairs : (v : List ℕ) → paired v ≡ eqb (length v % 2) 0
even_pairs = paired-even

pub decode_fits : (digits out : List ℕ) → 0 ≡ first (decode_rules digits out) → length digits ≡ length out * 2
decode_fits digits out z = (decode-allowed digits out (sym z)).fits

pub decode_done : {after : List ℕ} (digits out : List ℕ) → 0 ≡ first (decode_rules digits out) → after ≡ tab (length out) (pair_at digits)
    → Decodes digits out (Ok tt) after
decode_done digits out z w =
    let k = decode-allowed digits out (sym z) in
    record { answer = z; refused = λ p. absurd (p (sym z)); done = λ p. w ∙ sym (decoded-tab digits (length out) k.fits k.all) }

pub decode_refused : (r : Refusal) (digits out : List ℕ) → code r ≡ first (decode_rules digits out) → Decodes digits out (Err r) out
decode_refused r digits out e = record { answer = e; refused = λ p. refl; done = λ p. absurd (code-some r (e ∙ p)) }
