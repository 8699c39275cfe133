-- No second outcome meets the reader's contracts: the answer, the part's place and contents, and every lent buffer at exit.
-- Rests on ground's Outcome and on Told.
use Rattle.std.specs.Prelude.{◌≡◌, refl, Option, Result, Ok, Err, List, ℕ, ◌+◌}
use Rattle.std.proofs.Common.{sym, ap, ◌∙◌, arith}
use Rattle.std.proofs.Math.Decide.{ℕ_discrete}
use Rattle.ground.specs.Answers.{Answer, number_of}
use Rattle.ground.specs.AnswerLaws.{code-above, same-code, unique-answer}
use Rattle.ground.specs.declared.Refusal.{Refusal}
use Rattle.ground.specs.Outcome.{Writes, unique-writes, unique-equation}
use Rattle.books.specs.declared.FieldAt.{FieldAt}
use Rattle.books.specs.Book.{read_number}
use Rattle.books.specs.Cursor.{field_at, bytes_at}
use Rattle.book_reader.specs.Parts.{part_start, part_at}
use Rattle.book_reader.specs.declared.Next.{Next}
use Rattle.book_reader.specs.declared.Next.TheVariants.{Field, End}
use Rattle.book_reader.specs.Told.{copy_refusal, payload_refusal, next_number, Tells}

module _ (s : List ℕ) where
  pub unique-read : {r r' : Answer} → number_of r ≡ read_number s → number_of r' ≡ read_number s → r ≡ r'
  unique-read = unique-answer

  pub unique-part : (b at : ℕ) {r r' : List ℕ} {p p' : ℕ} → r ≡ part_at s b → p ≡ at + part_start s b → r' ≡ part_at s b → p' ≡ at + part_start s b → (r ≡ r') × (p ≡ p')
  unique-part b at e f g h = (unique-equation e g, unique-equation f h)

  pub unique-field-at : (b : ℕ) {r r' : Option FieldAt} → r ≡ field_at s b → r' ≡ field_at s b → r ≡ r'
  unique-field-at b = unique-equation

  pub unique-copy-field : (b : ℕ) {before : List ℕ} {r r' : Answer} {after after' : List ℕ} → Writes (copy_refusal s b before) (bytes_at s b) before r after
      → Writes (copy_refusal s b before) (bytes_at s b) before r' after' → (r ≡ r') × (after ≡ after')
  unique-copy-field b x y = unique-writes x y

  pub unique-payload : (b : ℕ) {before : List ℕ} {r r' : Answer} {after after' : List ℕ} → Writes (payload_refusal s b before) (bytes_at s b) before r after
      → Writes (payload_refusal s b before) (bytes_at s b) before r' after' → (r ≡ r') × (after ≡ after')
  unique-payload b x y = unique-writes x y

-- the number and the lent numbers
pub unique-field-number : {s : List ℕ} {b : ℕ} {before : List ℕ} {n n' : ℕ} {after after' : List ℕ} → Tells s b before n after → Tells s b before n' after' → (n ≡ n') × (after ≡ after')
unique-field-number {n = n} x y =
    let same = unique-equation x.answer y.answer in (
      same,
      elim (ℕ_discrete n 0) [ yes z ↦ unique-equation (x.told z) (y.told (sym same ∙ z)) | no z ↦ unique-equation (x.kept z) (y.kept (λ w. z (same ∙ w))) ],
    )

-- the number says which answer it is: a field is 0, none is 1, and a refusal is above 9
same-next : (a b : Result Next Refusal) → next_number a ≡ next_number b → a ≡ b
same-next (Ok Field) (Ok Field) e = refl
same-next (Ok Field) (Ok End) e = absurd (omega (arith, e))
same-next (Ok Field) (Err r) e = absurd (omega (arith, e, code-above r))
same-next (Ok End) (Ok Field) e = absurd (omega (arith, e))
same-next (Ok End) (Ok End) e = refl
same-next (Ok End) (Err r) e = absurd (omega (arith, e, code-above r))
same-next (Err r) (Ok Field) e = absurd (omega (arith, e, code-above r))
same-next (Err r) (Ok End) e = absurd (omega (arith, e, code-above r))
same-next (Err r) (Err s) e = ap Err (same-code r s e)

-- the answer and the lent numbers
pub unique-field : {s : List ℕ} {b : ℕ} {before : List ℕ} {r r' : Result Next Refusal} {after after' : List ℕ} → Tells s b before (next_number r) after
    → Tells s b before (next_number r') after' → (r ≡ r') × (after ≡ after')
unique-field {r = r} {r' = r'} x y = let same = unique-field-number x y in (same-next r r' same.0, same.1)
