-- Collecting a field: the value that the search found, decoded, is what `Collects` of response_format promises; where nothing was found nothing is written.
-- Rests on Seeks, and on Lent of response_format.
use Rattle.std.specs.Prelude.{◌≡◌, Bool, List, ℕ, ◌/◌, eqb, length, Ok, Err}
use Rattle.std.proofs.Math.Path.{refl, ap}
use Rattle.std.proofs.Common.{sym, ◌∙◌, arith}
use Rattle.std.proofs.Math.Bool.{true, false}
use Rattle.ground.specs.Pick.{pick}
use Rattle.ground.specs.AnswerLaws.{gives-value, gives-refusal}
use Rattle.ground.specs.Answers.{code, Answer, first, number_of}
use Rattle.ground.specs.declared.Refusal.{Refusal}
use Rattle.response_format.specs.Rules.{all_digits, paired}
use Rattle.response_format.specs.Tells.{decoded}
use Rattle.response_format.specs.Lent.{decode_rules, Decodes, none, sought_in, collect_refusal, collected, contents, Collects}
use Rattle.response_format.specs.declared.Collected.TheVariants.{Written, Absent}
use Rattle.response_machine.specs.Seeks.{value_between, Here}
use Rattle.response_machine.specs.declared.Span.{Span}

-- of sound digits nothing but the length is refused
sound-decodes : (v before : List ℕ) → all_digits 16 v ≡ true → paired v ≡ true → first (decode_rules v before) ≡ pick (eqb (length before) (length v / 2)) 0 20
unfolding decode_rules first
sound-decodes v before d p = rw (d, p)

module _ (f : List ℕ) (n j : ℕ) (before : List ℕ) where
  -- the value is found: its bytes are written, or the output has another length
  module _ {s : Span} {r : Answer} {after : List ℕ} (here : Here f j s (sought_in f n j)) (decodes : Decodes (value_between f j s) before r after) where
    abbrev v : List ℕ
    v = value_between f j s

    answered : number_of r ≡ collect_refusal (sought_in f n j) before
    unfolding collect_refusal
    answered = rw here.is (decodes.answer ∙ sound-decodes v before here.digits here.pairs)

    output : after ≡ contents (sought_in f n j) before
    unfolding contents
    output = rw here.is (by (eqb (length before) (length v / 2)) (sound-decodes v before here.digits here.pairs))
      where
        by : (t : Bool) → first (decode_rules v before) ≡ pick t 0 20 → after ≡ pick t (decoded v) before
        by true z = decodes.done z
        by false z = decodes.refused (λ y. omega (arith, z, y))

    written : collected (sought_in f n j) ≡ Written
    unfolding collected
    written = rw here.is

    pub collects-written : r ≡ Ok tt → Collects f n j before (Ok Written) after
    collects-written e = record { answer = rw written (gives-value (sym answered ∙ ap number_of e)); output = output }

    pub collects-unwritten : {q : Refusal} → r ≡ Err q → Collects f n j before (Err q) after
    collects-unwritten {q} e = record { answer = gives-refusal q (sym (ap number_of e) ∙ answered); output = output }

  refusal-none : (m : ℕ) → collect_refusal (none m) before ≡ m
  unfolding collect_refusal
  refusal-none m = refl

  contents-none : (m : ℕ) → contents (none m) before ≡ before
  unfolding contents
  contents-none m = refl

  collected-none : (m : ℕ) → collected (none m) ≡ Absent
  unfolding collected
  collected-none m = refl

  -- none is found, and nothing is at fault
  pub collects-absent : sought_in f n j ≡ none 0 → Collects f n j before (Ok Absent) before
  collects-absent e =
      record {
        answer = rw (e, collected-none 0) (gives-value (refusal-none 0));
        output = rw e (sym (contents-none 0));
      }

  -- or a refusal stands before it
  pub collects-refused : (r : Refusal) → sought_in f n j ≡ none (code r) → Collects f n j before (Err r) before
  collects-refused r e =
      record {
        answer = rw e (gives-refusal r (sym (refusal-none (code r))));
        output = rw e (sym (contents-none (code r)));
      }
