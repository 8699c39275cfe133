-- A book: blocks one after the other. What the reader answers, the parts that it holds, and what is written of a list of parts.
-- Rests on Codec and Turn.
use Rattle.std.specs.Prelude.{◌≡◌, refl, Bool, true, false, List, [], ◌∷◌, ◌++◌, ℕ, zero, suc, ◌+◌, ◌*◌, ◌/◌, ◌%◌, ◌<◌, ◌≤◌, eqb, leb, length, take, drop}
use Rattle.std.proofs.Common.{sym, ap, ap₂, ◌∙◌, not-suc-le-zero, arith, length-append, length-drop, length-take, take-append-drop, drop_of_length-le, take_at, drop_at, drop-drop, get_or-take, get_or-drop, length-take-le, eq-eqb, ne_eqb, eqb-true, le-leb, leb-true}
use Rattle.std.proofs.Math.Decide.{dec_lt, ℕ_discrete}
use Rattle.std.proofs.Math.ListN.{get_or-eq_default}
use Rattle.ground.specs.Pick.{pick, both, both_true, both_left, both_right}
use Rattle.blocks.specs.declared.Head.{Head}
use Rattle.blocks.specs.Block.{head_of, Part, part_of, block_at, block_of}
use Rattle.blocks.specs.Altered.{Bytes}
use Rattle.blocks.specs.Codec.{Fits, length-block, block-checked, block-formed, block-head, block-payload, Formed, formed-says, part-fits, block-of-part}
use Rattle.blocks.specs.Turn.{InTurn, in_turn, start, fault_of, no-fault, fault-none, in-turn-says, says-in-turn}

-- whole blocks, and not too many
unfoldable pub whole : List ℕ → Bool
whole s = both (eqb (length s % 512) 0) (leb (length s / 512) 65536)

-- the first number where it is one, else the second
abbrev pub or_else : ℕ → ℕ → ℕ
or_else x y = pick (eqb x 0) y x

-- the first fault of n blocks, the first of them at a place after a block with the head `before`
unfoldable pub fault_from : ℕ → ℕ → Head → List ℕ → ℕ
fault_from zero place before s = 0
fault_from (suc n) place before s = or_else (fault_of place before (take 512 s)) (fault_from n (place + 1) (head_of (take 512 s)) (drop 512 s))

-- what the reader answers: 0, or 40, or the fault of the first block at fault
unfoldable pub read_number : List ℕ → ℕ
read_number s = pick (whole s) (fault_from (length s / 512) 1 start s) 40

-- what n blocks hold
unfoldable pub parts : ℕ → List ℕ → List Part
parts zero s = []
parts (suc n) s = part_of (take 512 s) ∷ parts n (drop 512 s)

-- the blocks of the parts, the first at a place
unfoldable pub written : ℕ → List Part → List ℕ
written place [] = []
written place (p ∷ ps) = block_of place p ++ written (place + 1) ps

-- each part fits a block and is in turn
pub data Chain : Head → List Part → Type 0 where
  chain-none : {before : Head} → Chain before []
  chain_more : {before : Head} {p : Part} {ps : List Part} → Fits p → InTurn before p.head → Chain p.head ps → Chain before (p ∷ ps)

-- ---- what is written is read

pub length-written : (place : ℕ) {before : Head} {ps : List Part} → Chain before ps → length (written place ps) ≡ 512 * length ps
unfolding written
length-written place chain-none = refl
length-written place (chain_more {p = p} {ps = ps} f t c) = simp length-append (omega (arith, length-block p f place, length-written (place + 1) c))

pub written-parts : (place : ℕ) {before : Head} {ps : List Part} → Chain before ps → parts (length ps) (written place ps) ≡ ps
unfolding written parts
written-parts place chain-none = refl
written-parts place (chain_more {p = p} {ps = ps} f t c) =
    rw (
      take_at (block_of place p) (written (place + 1) ps) 512 (length-block p f place),
      drop_at (block_of place p) (written (place + 1) ps) 512 (length-block p f place),
      block-head p f place,
      block-payload p f place,
    ) (ap (λ l. p ∷ l) (written-parts (place + 1) c))

pub written-sound : (place : ℕ) {before : Head} {ps : List Part} → before.kind ≤ 7 → Chain before ps → fault_from (length ps) place before (written place ps) ≡ 0
unfolding written fault_from
written-sound place k chain-none = refl
written-sound place {before} k (chain_more {p = p} {ps = ps} f t c) =
    let turn : in_turn before (head_of (block_of place p)) ≡ true = rw (block-head p f place) (says-in-turn before p.head k f.high t) in
    let fine : fault_of place before (block_of place p) ≡ 0 = fault-none place before _ (block-checked p f place) (block-formed p f place) turn in
    rw (
      take_at (block_of place p) (written (place + 1) ps) 512 (length-block p f place),
      drop_at (block_of place p) (written (place + 1) ps) 512 (length-block p f place),
      fine,
      block-head p f place,
    ) (written-sound (place + 1) f.high c)

-- ---- what is read was written

pub bytes_take : (n : ℕ) (s : List ℕ) → Bytes s → Bytes (take n s)
bytes_take n s b =
    record {
      below = λ k.
          elim (dec_lt k n) [
            | yes l ↦ rw (get_or-take n s k 0 l) (b.below k)
            | no l ↦ let short : length (take n s) ≤ k = omega (arith, length-take n s) in rw (get_or-eq_default (take n s) 0 short) (omega arith)
          ];
    }

pub bytes_drop : (n : ℕ) (s : List ℕ) → Bytes s → Bytes (drop n s)
bytes_drop n s b = record { below = λ k. rw (get_or-drop n s k 0) (b.below (n + k)) }

pub or-else-zero : (x y : ℕ) → or_else x y ≡ 0 → (x ≡ 0) × (y ≡ 0)
or-else-zero x y e = elim (ℕ_discrete x 0) [ yes z ↦ (z, rw z at e) | no z ↦ absurd (z (rw (ne_eqb x 0 z) at e)) ]

pub sound-chain : (n place : ℕ) (before : Head) (s : List ℕ) → Bytes s → length s ≡ 512 * n → before.kind ≤ 7 → fault_from n place before s ≡ 0
    → Chain before (parts n s) × (written place (parts n s) ≡ s)
unfolding fault_from parts written
sound-chain zero place before [] b l k e = (chain-none, refl)
sound-chain zero place before (x ∷ s) b l k e = absurd (omega arith)
sound-chain (suc n) place before s b l k e =
    let both-fine = or-else-zero (fault_of place before (take 512 s)) (fault_from n (place + 1) (head_of (take 512 s)) (drop 512 s)) e in
    let fine = no-fault place before (take 512 s) both-fine.0 in
    let form : Formed (take 512 s) = formed-says (take 512 s) fine.1.0 in
    let long : length (take 512 s) ≡ 512 = length-take-le 512 s (omega arith) in
    let fits = part-fits (take 512 s) long form in
    let rest = sound-chain n (place + 1) (head_of (take 512 s)) (drop 512 s) (bytes_drop 512 s b) (simp length-drop (omega arith)) fits.high both-fine.1 in (
      chain_more fits (in-turn-says before (head_of (take 512 s)) k fits.high fine.1.1) rest.0,
      ap₂ ◌++◌ (block-of-part place (take 512 s) (bytes_take 512 s b) long form fine.0) rest.1 ∙ take-append-drop 512 s,
    )

-- ---- acceptance, exactly: the reader takes a book where, and only where, it is what is written of parts that fit and are in turn

pub record Sound (s : List ℕ) : Type 0 where
  pub held : List Part
  pub few : length held ≤ 65536
  pub chain : Chain start held
  pub same : s ≡ written 1 held

pub length-parts : (n : ℕ) (s : List ℕ) → length (parts n s) ≡ n
unfolding parts
length-parts zero s = refl
length-parts (suc n) s = ap suc (length-parts n (drop 512 s))

pub whole_says : (s : List ℕ) → whole s ≡ true → (length s ≡ 512 * (length s / 512)) × (length s / 512 ≤ 65536)
unfolding whole
whole_says s w = (
  (let z = eqb-true (length s % 512) 0 (both_left (eqb (length s % 512) 0) (leb (length s / 512) 65536) w) in omega arith),
  leb-true _ _ (both_right (eqb (length s % 512) 0) (leb (length s / 512) 65536) w),
)

pub says-whole : (s : List ℕ) (n : ℕ) → length s ≡ 512 * n → n ≤ 65536 → whole s ≡ true
unfolding whole
says-whole s n l m = both_true (eq-eqb (length s % 512) 0 (omega arith)) (le-leb (length s / 512) 65536 (omega arith))

-- no number: whole blocks, none at fault
pub read_none : (s : List ℕ) → read_number s ≡ 0 → (whole s ≡ true) × (fault_from (length s / 512) 1 start s ≡ 0)
unfolding read_number
read_none s e = by (whole s) refl
  where
    by : (w : Bool) → whole s ≡ w → (whole s ≡ true) × (fault_from (length s / 512) 1 start s ≡ 0)
    by true q = (q, rw q at e)
    by false q = absurd (let z : ◌≡◌ {A = ℕ} 40 0 = rw q at e in omega arith)

pub accepted-sound : (s : List ℕ) → Bytes s → read_number s ≡ 0 → Sound s
accepted-sound s b e =
    let w = read_none s e in
    let long = whole_says s w.0 in
    let read = sound-chain (length s / 512) 1 start s b long.0 (omega arith) w.1 in
    record { held = parts (length s / 512) s; few = rw (length-parts (length s / 512) s) long.1; chain = read.0; same = sym read.1 }

pub written-accepted : (ps : List Part) → Chain start ps → length ps ≤ 65536 → read_number (written 1 ps) ≡ 0
unfolding read_number
written-accepted ps c l =
    let long = length-written 1 c in
    let n : length (written 1 ps) / 512 ≡ length ps = omega arith in
    rw (says-whole (written 1 ps) (length ps) long l, n) (written-sound 1 (omega arith) c)

pub sound-accepted : (s : List ℕ) → Sound s → read_number s ≡ 0
sound-accepted s r = rw r.same (written-accepted r.held r.chain r.few)

-- what the reader takes of a written book is what was written
unfoldable pub book_parts : List ℕ → List Part
book_parts s = parts (length s / 512) s

pub written_read : (ps : List Part) → Chain start ps → book_parts (written 1 ps) ≡ ps
unfolding book_parts
written_read ps c =
    let long = length-written 1 c in
    let n : length (written 1 ps) / 512 ≡ length ps = omega arith in
    rw n (written-parts 1 c)

-- ---- the parts of a book, block by block

block-parts : (n i : ℕ) (s : List ℕ) → i < n → drop i (parts n s) ≡ part_of (block_at i s) ∷ drop (i + 1) (parts n s)
unfolding parts
block-parts zero i s l = absurd (not-suc-le-zero l)
block-parts (suc n) zero s l = refl
block-parts (suc n) (suc i) s l =
    let next : suc i + 1 ≡ suc (i + 1) = omega arith in
    let at : 512 * suc i ≡ 512 + 512 * i = omega arith in
    rw (next, at, ← drop-drop (512 * i) 512 s) (block-parts n i (drop 512 s) (omega arith))

pub length-book-parts : (s : List ℕ) → length (book_parts s) ≡ length s / 512
unfolding book_parts
length-book-parts s = length-parts (length s / 512) s

pub at_block : (s : List ℕ) (i : ℕ) → i < length s / 512 → drop i (book_parts s) ≡ part_of (block_at i s) ∷ drop (i + 1) (book_parts s)
unfolding book_parts
at_block s i l = block-parts (length s / 512) i s l

pub at-end : (s : List ℕ) (i : ℕ) → length s / 512 ≤ i → drop i (book_parts s) ≡ []
unfolding book_parts
at-end s i l = drop_of_length-le (parts (length s / 512) s) {i = i} (omega (arith, length-parts (length s / 512) s))
