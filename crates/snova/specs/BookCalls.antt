-- What the functions of the C interface promise of exercise books and of salvage, and that no second outcome meets it: the number returned is the page's number of an
-- answer that meets the promise of the function behind it. Rests on the contracts of book_writer, book_reader and salvage.
use Rattle.std.specs.Prelude.{◌≡◌, Result, Ok, Err, List, ℕ}
use Rattle.std.proofs.Common.{sym, ap, ◌∙◌}
use Rattle.ground.specs.Answers.{Answer, number_of}
use Rattle.ground.specs.Outcome.{Writes, unique-writes}
use Rattle.books.specs.Book.{read_number}
use Rattle.books.specs.Cursor.{bytes_at}
use Rattle.book_writer.specs.Lists.{Written, unique-write}
use Rattle.book_reader.specs.Told.{payload_refusal, Tells}
use Rattle.book_reader.specs.Unique.{unique-field-number}
use Rattle.ground.specs.declared.Refusal.{Refusal}
use Rattle.ground.specs.AnswerLaws.{unique-answer}
use Rattle.salvage.specs.Salvages.{Salvages, unique-salvage}
use Rattle.salvage.specs.Salvages.{number_of as salvage_number}
use Rattle.snova.specs.Interface.{Numbered}

abbrev pub BookWrite : (exercises kinds sizes payload book : List ℕ) (n : ℕ) (book' : List ℕ) → Type 0
BookWrite exercises kinds sizes payload book n book' = Numbered number_of (λ r. Written exercises kinds sizes payload book r book') n

abbrev pub BookRead : (book : List ℕ) (n : ℕ) → Type 0
BookRead book n = Numbered {A = Answer} number_of (λ r. number_of r ≡ read_number book) n

abbrev pub BookField : (book : List ℕ) (block : ℕ) (numbers : List ℕ) (n : ℕ) (numbers' : List ℕ) → Type 0
BookField book block numbers n numbers' = Tells book block numbers n numbers'

abbrev pub BookPayload : (book : List ℕ) (block : ℕ) (output : List ℕ) (n : ℕ) (output' : List ℕ) → Type 0
BookPayload book block output n output' = Numbered number_of (λ r. Writes (payload_refusal book block output) (bytes_at book block) output r output') n

-- the count told, and as it was where the call is refused
abbrev pub kept_after : Result ℕ Refusal → ℕ → ℕ
kept_after (Ok k) kept = k
kept_after (Err r) kept = kept

pub record SalvagesAndCounts (book output list : List ℕ) (kept : ℕ) (r : Result ℕ Refusal) (output' list' : List ℕ) (kept' : ℕ) : Type 0 where
  pub salvages : Salvages book output list r output' list'
  pub counts : kept' ≡ kept_after r kept

abbrev pub BookSalvage : (book output list : List ℕ) (kept n : ℕ) (output' list' : List ℕ) (kept' : ℕ) → Type 0
BookSalvage book output list kept n output' list' kept' = Numbered salvage_number (λ r. SalvagesAndCounts book output list kept r output' list' kept') n

-- from what the calls give
pub salvage-counts : {book output list o l : List ℕ} {kept k : ℕ} {r : Result ℕ Refusal} → Salvages book output list r o l → r ≡ Ok k → BookSalvage book output list kept 0 o l k
salvage-counts {kept = kept} w e = record { answer = _; meets = record { salvages = w; counts = ap (λ a. kept_after a kept) (sym e) }; is = ap salvage_number (sym e) }

pub salvage-refuses : {book output list o l : List ℕ} {kept n : ℕ} {e : Refusal} {r : Result ℕ Refusal} → Salvages book output list r o l → r ≡ Err e → n ≡ salvage_number r
    → BookSalvage book output list kept n o l kept
salvage-refuses {kept = kept} w e i = record { answer = _; meets = record { salvages = w; counts = ap (λ a. kept_after a kept) (sym e) }; is = i }

-- ---- one outcome

-- one answer has one number
same_number : {A : Type 0} {number : A → ℕ} {P Q : A → Type 0} {n n' : ℕ} (a : Numbered number P n) (b : Numbered number Q n') → a.answer ≡ b.answer → n ≡ n'
same_number {number = number} a b e = a.is ∙ ap number e ∙ sym b.is

pub unique-snova-book-write : (exercises kinds sizes payload book : List ℕ) {n n' : ℕ} {s s' : List ℕ} → BookWrite exercises kinds sizes payload book n s
    → BookWrite exercises kinds sizes payload book n' s' → (n ≡ n') × (s ≡ s')
unique-snova-book-write exercises kinds sizes payload book a b =
    let u = unique-write exercises kinds sizes payload a.meets b.meets in (same_number a b u.0, u.1)

pub unique-snova-book-read : (book : List ℕ) {n n' : ℕ} → BookRead book n → BookRead book n' → n ≡ n'
unique-snova-book-read book a b = same_number a b (unique-answer a.meets b.meets)

pub unique-snova-book-field : (book : List ℕ) (block : ℕ) (numbers : List ℕ) {n n' : ℕ} {s s' : List ℕ} → BookField book block numbers n s → BookField book block numbers n' s'
    → (n ≡ n') × (s ≡ s')
unique-snova-book-field book block numbers a b = unique-field-number a b

pub unique-snova-book-payload : (book : List ℕ) (block : ℕ) (output : List ℕ) {n n' : ℕ} {s s' : List ℕ} → BookPayload book block output n s
    → BookPayload book block output n' s' → (n ≡ n') × (s ≡ s')
unique-snova-book-payload book block output a b = let u = unique-writes a.meets b.meets in (same_number a b u.0, u.1)

pub unique-snova-book-salvage : (book output list : List ℕ) (kept : ℕ) {n n' k k' : ℕ} {o o' l l' : List ℕ} → BookSalvage book output list kept n o l k
    → BookSalvage book output list kept n' o' l' k' → (n ≡ n') × ((o ≡ o') × ((l ≡ l') × (k ≡ k')))
unique-snova-book-salvage book output list kept a b =
    let u = unique-salvage book output list a.meets.salvages b.meets.salvages in
    (same_number a b u.0, (u.1.0, (u.1.1, a.meets.counts ∙ ap (λ r. kept_after r kept) u.0 ∙ sym b.meets.counts)))
