-- What the functions of the reader promise that write into a lent buffer: a field's numbers, and its bytes. The reader's refusals come first, then 20.
-- Rests on books' Cursor.
use Rattle.std.specs.Prelude.{◌≡◌, Option, Some, None, Result, Err, List, [], ◌∷◌, ℕ, ◌/◌, ◌≤◌, eqb, length, drop, set}
use Rattle.std.proofs.Math.Path.{refl, sym, ap}
use Rattle.std.proofs.Common.{◌∙◌, arith, drop_of_length-le, eq-eqb, ne_eqb}
use Rattle.ground.specs.Pick.{pick}
use Rattle.ground.specs.Answers.{Answer, numbered, number_of as answer_number}
use Rattle.ground.specs.AnswerLaws.{code-some}
use Rattle.ground.specs.declared.Refusal.{Refusal}
use Rattle.ground.specs.Outcome.{Writes}
use Rattle.books.specs.declared.FieldAt.{FieldAt}
use Rattle.book_reader.specs.declared.Next.{Next}
use Rattle.book_reader.specs.declared.Next.TheVariants.{Field, End}
use Rattle.blocks.specs.Block.{Part}
use Rattle.books.specs.Book.{or_else, read_number, parts, book_parts, length-parts}
use Rattle.books.specs.Cursor.{next_of, bytes_of, field_at, bytes_at, size-told}

-- 20 where the output has not the length of the field's bytes
unfoldable pub copy_refusal : List ℕ → ℕ → List ℕ → ℕ
copy_refusal s b output = pick (eqb (length output) (length (bytes_at s b))) 0 20

-- the reader's refusals, then 20
unfoldable pub payload_refusal : List ℕ → ℕ → List ℕ → ℕ
payload_refusal s b output = or_else (read_number s) (copy_refusal s b output)

-- what the cursor hands out as a number: 0 a field, 1 none
abbrev pub number_of : Option FieldAt → ℕ
number_of (Some f) = 0
number_of None = 1

-- a field's exercise, kind, size and the block after it, as a list
abbrev pub numbers_of : Option FieldAt → List ℕ
numbers_of (Some f) = f.exercise ∷ f.kind ∷ f.size ∷ f.after ∷ []
numbers_of None = []

-- the reader's refusals, then 20 where there is not room for four numbers, then 1 where there is no further field
unfoldable pub field_number : List ℕ → ℕ → List ℕ → ℕ
field_number s b numbers = or_else (read_number s) (pick (eqb (length numbers) 4) (number_of (field_at s b)) 20)

-- the page's number of a field and of none
abbrev pub number_of_next : Next → ℕ
number_of_next Field = 0
number_of_next End = 1

-- and of what the cursor tells
abbrev pub next_number : Result Next Refusal → ℕ
next_number = numbered number_of_next

-- What is promised of the number answered and of the lent numbers, before and after.
pub record Tells (s : List ℕ) (b : ℕ) (before : List ℕ) (n : ℕ) (after : List ℕ) : Type 0 where
  pub answer : n ≡ field_number s b before
  pub told : n ≡ 0 → after ≡ numbers_of (field_at s b)
  pub kept : (n ≡ 0 → ⊥) → after ≡ before

-- ---- the reader's refusals first

pub read_first : {n : ℕ} (s : List ℕ) (rest : ℕ) → n ≡ read_number s → (n ≡ 0 → ⊥) → or_else (read_number s) rest ≡ n
read_first {n} s rest e z = rw (sym e, ne_eqb n 0 z)

pub read-passed : {n : ℕ} (s : List ℕ) (rest : ℕ) → n ≡ read_number s → n ≡ 0 → or_else (read_number s) rest ≡ rest
read-passed {n} s rest e z = rw (sym e, eq-eqb n 0 z)

-- ---- the numbers

pub four-set : (s : List ℕ) {e k size after : ℕ} → length s ≡ 4 → set (set (set (set s 0 e) 1 k) 2 size) 3 after ≡ e ∷ k ∷ size ∷ after ∷ []
four-set [] l = absurd (omega arith)
four-set (a ∷ []) l = absurd (omega arith)
four-set (a ∷ (b ∷ [])) l = absurd (omega arith)
four-set (a ∷ (b ∷ (c ∷ []))) l = absurd (omega arith)
four-set (a ∷ (b ∷ (c ∷ (d ∷ [])))) l = refl
four-set (a ∷ (b ∷ (c ∷ (d ∷ (x ∷ s))))) l = absurd (omega arith)

module _ (s : List ℕ) (b : ℕ) (before : List ℕ) where
  pub tells-refused : {n : ℕ} → n ≡ read_number s → (n ≡ 0 → ⊥) → Tells s b before n before
  unfolding field_number
  tells-refused {n} e z = record { answer = sym (read_first s _ e z); told = λ h. absurd (z h); kept = λ h. refl }

  pub tells-20 : {n : ℕ} → n ≡ read_number s → n ≡ 0 → (length before ≡ 4 → ⊥) → Tells s b before 20 before
  unfolding field_number
  tells-20 e z l = record { answer = sym (read-passed s _ e z ∙ rw (ne_eqb (length before) 4 l)); told = λ h. absurd (omega arith); kept = λ h. refl }

  pub tells_none : {n : ℕ} → n ≡ read_number s → n ≡ 0 → length before ≡ 4 → field_at s b ≡ None → Tells s b before 1 before
  unfolding field_number
  tells_none e z l f = record { answer = sym (read-passed s _ e z ∙ rw (eq-eqb (length before) 4 l, f)); told = λ h. absurd (omega arith); kept = λ h. refl }

  pub tells-field : {n : ℕ} {f : FieldAt} {t : List ℕ} → n ≡ read_number s → n ≡ 0 → length before ≡ 4 → field_at s b ≡ Some f → t ≡ f.exercise ∷ f.kind ∷ f.size ∷ f.after ∷ []
      → Tells s b before 0 t
  unfolding field_number
  tells-field e z l f w = record { answer = sym (read-passed s _ e z ∙ rw (eq-eqb (length before) 4 l, f)); told = λ h. rw f w; kept = λ h. absurd (h refl) }

  -- the bytes, where the book is read first
  pub payload-refused : {n : ℕ} {r : Answer} → n ≡ read_number s → (n ≡ 0 → ⊥) → answer_number r ≡ n → Writes (payload_refusal s b before) (bytes_at s b) before r before
  unfolding payload_refusal
  payload-refused {n} e z a =
      let is = read_first s (copy_refusal s b before) e z in
      record { answer = a ∙ sym is; refused = λ h. refl; done = λ h. absurd (z (sym is ∙ h)) }

  -- a refusal of the reader is handed up
  pub payload_handed_up : (r : Refusal) {a : Answer} → answer_number a ≡ read_number s → a ≡ Err r → Writes (payload_refusal s b before) (bytes_at s b) before (Err r) before
  payload_handed_up r e is = payload-refused (sym (ap answer_number is) ∙ e) (code-some r) refl

  pub payload-passed : {n : ℕ} {r : Answer} {t : List ℕ} → n ≡ read_number s → n ≡ 0 → Writes (copy_refusal s b before) (bytes_at s b) before r t
      → Writes (payload_refusal s b before) (bytes_at s b) before r t
  unfolding payload_refusal
  payload-passed e z w = rw (read-passed s (copy_refusal s b before) e z) w

-- ---- the bytes

copied : (s : List ℕ) (b : ℕ) (output : List ℕ) → length output ≡ length (bytes_at s b) → copy_refusal s b output ≡ 0
unfolding copy_refusal
copied s b output e = rw (eq-eqb (length output) (length (bytes_at s b)) e)

pub copy_done : (s : List ℕ) (b : ℕ) (before : List ℕ) {after : List ℕ} {r : Answer} → answer_number r ≡ 0 → length before ≡ length (bytes_at s b) → after ≡ bytes_at s b
    → Writes (copy_refusal s b before) (bytes_at s b) before r after
copy_done s b before a e w =
    let none = copied s b before e in
    record { answer = a ∙ sym none; refused = λ n. absurd (n none); done = λ z. w }

pub copy-refused : (s : List ℕ) (b : ℕ) (output : List ℕ) {r : Answer} → answer_number r ≡ 20 → (length output ≡ length (bytes_at s b) → ⊥) → Writes (copy_refusal s b output) (bytes_at s b) output r output
unfolding copy_refusal
copy-refused s b output a n =
    let other = ne_eqb (length output) (length (bytes_at s b)) n in
    record { answer = rw other a; refused = λ z. refl; done = λ z. absurd (let bad : ◌≡◌ {A = ℕ} 20 0 = rw other at z in omega arith) }

-- the size that the cursor tells is the count of the bytes, none where there is no field
pub size_none : (s : List ℕ) (b : ℕ) {next : Option FieldAt} → next ≡ field_at s b → next ≡ None → 0 ≡ length (bytes_at s b)
unfolding field_at bytes_at
size_none s b {next} p q = by (drop b (book_parts s)) (sym p ∙ q)
  where
    by : (ps : List Part) → next_of b ps ≡ None → 0 ≡ length (bytes_of ps)
    by [] h = refl
    by (x ∷ ps) h = cc

-- no block, no bytes
pub bytes-none : (s : List ℕ) (b : ℕ) {output : List ℕ} → length s / 512 ≤ b → length output ≡ length (bytes_at s b) → output ≡ bytes_at s b
unfolding bytes_at book_parts
bytes-none s b {output} l e =
    let none : drop b (parts (length s / 512) s) ≡ [] = drop_of_length-le (parts (length s / 512) s) {i = b} (omega (arith, length-parts (length s / 512) s)) in
    empty output (e ∙ ap (λ ps. length (bytes_of ps)) none) ∙ sym (ap bytes_of none)
  where
    empty : (x : List ℕ) → length x ≡ 0 → x ≡ []
    empty [] h = refl
    empty (y ∷ x) h = absurd (omega arith)

pub size-at : (s : List ℕ) (b : ℕ) {f : FieldAt} {next : Option FieldAt} → next ≡ field_at s b → next ≡ Some f → f.size ≡ length (bytes_at s b)
size-at s b p q = size-told s b (sym p ∙ q)
