-- The reader's cursor: the field that begins at a block, its bytes, and the block after it. Walking it gives exactly the fields of the book, bytes included.
-- Rests on Fields.
use Rattle.std.specs.Prelude.{◌≡◌, Option, Some, None, refl, Bool, true, false, List, [], ◌∷◌, ◌++◌, ℕ, zero, suc, ◌+◌, ◌/◌, ◌≤◌, leb, length, drop}
use Rattle.std.proofs.Common.{sym, ap, ◌∙◌, append-nil, one-add, arith, drop_of_length-le, drop-drop}
use Rattle.ground.specs.Pick.{pick}
use Rattle.blocks.specs.Block.{Part}
use Rattle.books.specs.declared.FieldAt.{FieldAt}
use Rattle.books.specs.Book.{book_parts, length-parts}
use Rattle.books.specs.Fields.{Field, Rising, gather, fields_of, book_of, parts_of, round_trip}

-- how many of the parts go on with a field, and their bytes
unfoldable pub run : List Part → ℕ
run [] = 0
run (p ∷ ps) = pick (leb 1 p.head.part) (1 + run ps) 0

unfoldable pub run_bytes : List Part → List ℕ
run_bytes [] = []
run_bytes (p ∷ ps) = pick (leb 1 p.head.part) (p.payload ++ run_bytes ps) []

-- the bytes of the field at the front of the parts
abbrev pub bytes_of : List Part → List ℕ
bytes_of [] = []
bytes_of (p ∷ ps) = p.payload ++ run_bytes ps

-- what stands at the front of the parts from block b on: a field's exercise, kind, size and the block after it
abbrev pub next_of : ℕ → List Part → Option FieldAt
next_of b [] = None
next_of b (p ∷ ps) = Some (record { exercise = p.head.exercise; kind = p.head.kind; size = length (bytes_of (p ∷ ps)); after = b + 1 + run ps })

-- what the cursor hands out at block b, and the bytes of the field there
unfoldable pub field_at : List ℕ → ℕ → Option FieldAt
field_at s b = next_of b (drop b (book_parts s))

unfoldable pub bytes_at : List ℕ → ℕ → List ℕ
bytes_at s b = bytes_of (drop b (book_parts s))

-- ---- the walk: from a block on, what the cursor hands out and the bytes there, then on from the block after; n bounds the steps

abbrev told : Option FieldAt → List ℕ → (ℕ → List Field) → List Field
told None d rest = []
told (Some f) d rest = record { exercise = f.exercise; kind = f.kind; payload = d } ∷ rest f.after

unfoldable pub walk : ℕ → List ℕ → ℕ → List Field
walk zero s b = []
walk (suc n) s b = told (field_at s b) (bytes_at s b) (λ after. walk n s after)

-- the field at the front is the first of those gathered, and the next begins after its run
pub gather-first : (p : Part) (ps : List Part)
    → gather (p ∷ ps) ≡ record { exercise = p.head.exercise; kind = p.head.kind; payload = bytes_of (p ∷ ps) } ∷ gather (drop (run ps) ps)
unfolding gather run run_bytes
gather-first p [] = rw (append-nil p.payload)
gather-first p (q ∷ qs) = by (leb 1 q.head.part) refl (gather-first q qs)
  where
    by : (t : Bool) → leb 1 q.head.part ≡ t
        → gather (q ∷ qs) ≡ record { exercise = q.head.exercise; kind = q.head.kind; payload = bytes_of (q ∷ qs) } ∷ gather (drop (run qs) qs)
        → gather (p ∷ (q ∷ qs)) ≡ record { exercise = p.head.exercise; kind = p.head.kind; payload = bytes_of (p ∷ (q ∷ qs)) } ∷ gather (drop (run (q ∷ qs)) (q ∷ qs))
    by true t f = rw (t, f, one-add (run qs))
    by false t f = rw (t, append-nil p.payload)

walk_from : (n : ℕ) (s : List ℕ) (b : ℕ) → length (book_parts s) ≤ n + b → walk n s b ≡ gather (drop b (book_parts s))
unfolding walk gather field_at bytes_at
walk_from zero s b l = rw (drop_of_length-le (book_parts s) {i = b} (omega arith))
walk_from (suc n) s b l = by (drop b (book_parts s)) refl (λ after h. walk_from n s after h)
  where
    by : (ps : List Part) → drop b (book_parts s) ≡ ps → ((after : ℕ) → length (book_parts s) ≤ n + after → walk n s after ≡ gather (drop after (book_parts s)))
        → told (field_at s b) (bytes_at s b) (λ after. walk n s after) ≡ gather (drop b (book_parts s))
    by [] e later = rw e
    by (p ∷ ps) e later =
        let next : drop (b + 1 + run ps) (book_parts s) ≡ drop (run ps) ps
        = sym (drop-drop (run ps) (b + 1) (book_parts s)) ∙ ap (drop (run ps)) (sym (drop-drop 1 b (book_parts s)) ∙ ap (drop 1) e) in
        rw (e, gather-first p ps, later (b + 1 + run ps) (omega arith), next)

-- walking the cursor through any book gives its fields, bytes included
pub walk-fields : (s : List ℕ) → walk (length s / 512) s 0 ≡ fields_of s
unfolding fields_of book_parts
walk-fields s = walk_from (length s / 512) s 0 (omega (arith, length-parts (length s / 512) s))

-- and through a written book exactly the fields that were written
pub walk-written : (fs : List Field) → Rising 0 fs → length (parts_of fs) ≤ 65536 → walk (length (book_of fs) / 512) (book_of fs) 0 ≡ fs
walk-written fs up few = walk-fields (book_of fs) ∙ (round_trip fs up few).1

-- the size that the cursor hands out is the count of the bytes
pub size-told : (s : List ℕ) (b : ℕ) {f : FieldAt} → field_at s b ≡ Some f → f.size ≡ length (bytes_at s b)
unfolding field_at bytes_at
size-told s b {f} = by (drop b (book_parts s))
  where
    by : (ps : List Part) → next_of b ps ≡ Some f → f.size ≡ length (bytes_of ps)
    by [] h = cc
    by (p ∷ ps) h = cc
