-- Fields: what a book is about. A field is cut into parts, each full but the last; the parts of a book gathered are its fields.
-- Rests on Book.
use Rattle.std.specs.Prelude.{◌≡◌, refl, Bool, true, false, List, [], ◌∷◌, ◌++◌, ℕ, zero, suc, ◌+◌, ◌-◌, ◌*◌, ◌/◌, ◌<◌, ◌≤◌, leb, length, take, drop}
use Rattle.std.proofs.Common.{sym, ap, ◌∙◌, arith, length-drop, length-take, take-append-drop, take_all, length-take-le, le-leb}
use Rattle.ground.specs.Pick.{pick}
use Rattle.blocks.specs.declared.Head.{Head}
use Rattle.blocks.specs.Block.{Part}
use Rattle.blocks.specs.Codec.{Fits}
use Rattle.blocks.specs.Turn.{InTurn, next, begins, rank, start}
use Rattle.books.specs.Book.{Chain, chain-none, chain_more, written, read_number, book_parts, written-accepted, written_read}

pub record Field : Type 0 where
  pub exercise : ℕ
  pub kind : ℕ
  pub payload : List ℕ

-- ---- from fields to parts

-- the number of the last part of a field of so many bytes
abbrev pub last_part : ℕ → ℕ
last_part size = (size - 1) / 500

abbrev pub part_at : ℕ → ℕ → ℕ → List ℕ → Part
part_at e k n d = record { head = record { exercise = e; kind = k; part = n }; payload = take 500 d }

-- part n and `more` parts after it
unfoldable pub cut : ℕ → ℕ → ℕ → ℕ → List ℕ → List Part
cut zero e k n d = part_at e k n d ∷ []
cut (suc more) e k n d = part_at e k n d ∷ cut more e k (n + 1) (drop 500 d)

unfoldable pub parts_of : List Field → List Part
parts_of [] = []
parts_of (f ∷ fs) = cut (last_part (length f.payload)) f.exercise f.kind 0 f.payload ++ parts_of fs

-- the book of the fields
unfoldable pub book_of : List Field → List ℕ
book_of fs = written 1 (parts_of fs)

-- ---- from parts to fields

-- the next part goes on with a field
abbrev pub continues : List Part → Bool
continues [] = false
continues (p ∷ ps) = leb 1 p.head.part

abbrev pub field_of : Part → Field
field_of p = record { exercise = p.head.exercise; kind = p.head.kind; payload = p.payload }

abbrev pub joined : Part → List Field → List Field
joined p [] = field_of p ∷ []
joined p (f ∷ fs) = record { exercise = p.head.exercise; kind = p.head.kind; payload = p.payload ++ f.payload } ∷ fs

unfoldable pub gather : List Part → List Field
gather [] = []
gather (p ∷ ps) = pick (continues ps) (joined p (gather ps)) (field_of p ∷ gather ps)

-- the fields of a book
unfoldable pub fields_of : List ℕ → List Field
fields_of s = gather (book_parts s)

-- ---- fields in order

-- each field is not empty, of kind 1 to 7, and of a higher kind or exercise than the one before it; r is the rank of the field before
pub data Rising : ℕ → List Field → Type 0 where
  rising_none : {r : ℕ} → Rising r []
  rising-more : {r : ℕ} {f : Field} {fs : List Field} → 1 ≤ f.kind → f.kind ≤ 7 → 1 ≤ length f.payload → r < 8 * f.exercise + f.kind
      → Rising (8 * f.exercise + f.kind) fs → Rising r (f ∷ fs)

part-at-fits : (e k n : ℕ) (d : List ℕ) → 1 ≤ k → k ≤ 7 → 1 ≤ length d → Fits (part_at e k n d)
part-at-fits e k n d l m some = record { low = l; high = m; some = omega (arith, length-take 500 d); most = omega (arith, length-take 500 d) }

cut-chain : (more e k n : ℕ) (d : List ℕ) {before : Head} (ps : List Part) → 1 ≤ k → k ≤ 7 → 500 * more < length d → InTurn before (part_at e k n d).head
    → ((h : Head) → rank h ≡ 8 * e + k → Chain h ps) → Chain before (cut more e k n d ++ ps)
unfolding cut
cut-chain zero e k n d ps l m some turn after = chain_more (part-at-fits e k n d l m (omega arith)) turn (after _ refl)
cut-chain (suc more) e k n d ps l m some turn after =
    chain_more (part-at-fits e k n d l m (omega arith)) turn
    (cut-chain more e k (n + 1) (drop 500 d) ps l m (omega (arith, length-drop 500 d)) (next refl refl refl) after)

pub fields-chain : {fs : List Field} {r : ℕ} → Rising r fs → (before : Head) → rank before ≡ r → Chain before (parts_of fs)
unfolding parts_of
fields-chain rising_none before e = chain-none
fields-chain (rising-more {f = f} {fs = fs} l m some up rest) before e =
    cut-chain _ f.exercise f.kind 0 f.payload (parts_of fs) l m (omega arith) (begins refl (omega arith)) (λ h e'. fields-chain rest h e')

cut-continues : (more e k n : ℕ) (d : List ℕ) (ps : List Part) → continues (cut more e k n d ++ ps) ≡ leb 1 n
unfolding cut
cut-continues zero e k n d ps = refl
cut-continues (suc more) e k n d ps = refl

cut-gather : (more e k n : ℕ) (d : List ℕ) (ps : List Part) → continues ps ≡ false → length d ≤ 500 * (more + 1)
    → gather (cut more e k n d ++ ps) ≡ record { exercise = e; kind = k; payload = d } ∷ gather ps
unfolding gather cut
cut-gather zero e k n d ps stop short = rw (stop, take_all 500 d (omega arith))
cut-gather (suc more) e k n d ps stop short =
    let on : continues (cut more e k (n + 1) (drop 500 d) ++ ps) ≡ true = cut-continues more e k (n + 1) (drop 500 d) ps ∙ le-leb 1 (n + 1) (omega arith) in
    rw (on, cut-gather more e k (n + 1) (drop 500 d) ps stop (omega (arith, length-drop 500 d)), take-append-drop 500 d)

fields-stop : {fs : List Field} {r : ℕ} → Rising r fs → continues (parts_of fs) ≡ false
unfolding parts_of
fields-stop rising_none = refl
fields-stop (rising-more {f = f} {fs = fs} l m some up rest) = cut-continues _ f.exercise f.kind 0 f.payload (parts_of fs)

pub gather-parts : {fs : List Field} {r : ℕ} → Rising r fs → gather (parts_of fs) ≡ fs
unfolding parts_of gather
gather-parts rising_none = refl
gather-parts (rising-more {f = f} {fs = fs} l m some up rest) = cut-gather _ _ _ 0 f.payload (parts_of fs) (fields-stop rest) (omega arith) ∙ ap (λ x. f ∷ x) (gather-parts rest)

-- ---- the round trip

-- every list of non-empty fields in order reads back equal from what is written of it
pub round_trip : (fs : List Field) → Rising 0 fs → length (parts_of fs) ≤ 65536 → (read_number (book_of fs) ≡ 0) × (fields_of (book_of fs) ≡ fs)
unfolding book_of fields_of
round_trip fs up few =
    let chain = fields-chain up start refl in
    (written-accepted (parts_of fs) chain few, ap gather (written_read (parts_of fs) chain) ∙ gather-parts up)

-- ---- each part is full but a field's last

-- a part that another part of the field follows is full
pub data Full : List Part → Type 0 where
  full-none : Full []
  full-more : {p : Part} {ps : List Part} → (continues ps ≡ true → length p.payload ≡ 500) → Full ps → Full (p ∷ ps)

cut-full : (more e k n : ℕ) (d : List ℕ) (ps : List Part) → continues ps ≡ false → 500 * more < length d → Full ps → Full (cut more e k n d ++ ps)
unfolding cut
cut-full zero e k n d ps stop long rest = full-more (λ on. absurd (let z : ◌≡◌ {A = ℕ} 1 0 = ap (λ b. pick b 1 0) (sym on ∙ stop) in omega arith)) rest
cut-full (suc more) e k n d ps stop long rest =
    full-more (λ on. length-take-le 500 d (omega arith)) (cut-full more e k (n + 1) (drop 500 d) ps stop (omega (arith, length-drop 500 d)) rest)

parts-full : {fs : List Field} {r : ℕ} → Rising r fs → Full (parts_of fs)
unfolding parts_of
parts-full rising_none = full-none
parts-full (rising-more {f = f} {fs = fs} l m some up rest) = cut-full _ f.exercise f.kind 0 f.payload (parts_of fs) (fields-stop rest) (omega arith) (parts-full rest)

-- of what is written, as it is read
pub written-full : (fs : List Field) → Rising 0 fs → Full (book_parts (book_of fs))
unfolding book_of
written-full fs up = rw (written_read (parts_of fs) (fields-chain up start refl)) (parts-full up)
