-- What the reader's number says: 0 exactly for a book that is the writing of a chain of parts in turn; 40 exactly for a size that is not whole blocks, or too many;
-- any other number exactly where the first block at fault has it as its lowest. A block with one word altered is never sound. Rests on Book and on ground's Applies.
use Rattle.std.specs.Prelude.{◌≡◌, refl, Bool, true, false, ◌↔◌, List, ℕ, zero, suc, ◌+◌, ◌*◌, ◌/◌, ◌<◌, ◌≤◌, length, take, drop}
use Rattle.std.proofs.Common.{sym, ap, ◌∙◌, not-suc-le-zero, add-zero, arith, drop-drop, eq-eqb, ne_eqb}
use Rattle.std.proofs.Math.Decide.{ℕ_discrete}
use Rattle.ground.specs.Pick.{pick}
use Rattle.ground.specs.Answers.{first}
use Rattle.ground.specs.Applies.{Lowest, first-lowest}
use Rattle.blocks.specs.declared.Head.{Head}
use Rattle.blocks.specs.Block.{block_at, head_of, checked, formed}
use Rattle.blocks.specs.Altered.{Bytes, Altered, altered-unchecked}
use Rattle.blocks.specs.Turn.{in_turn, start, fault_of, fault_rules, no-fault}
use Rattle.books.specs.Book.{whole, or_else, fault_from, read_number, Sound, bytes_take, bytes_drop, or-else-zero, read_none, accepted-sound, sound-accepted}

-- ---- 0

-- a book is taken exactly where it is what is written of at most 65,536 parts that fit and are in turn
pub taken-exactly : (s : List ℕ) → Bytes s → (read_number s ≡ 0) ↔ Sound s
taken-exactly s b = (accepted-sound s b, sound-accepted s)

-- ---- 41 to 43

-- what stands before block b
abbrev pub head_before : ℕ → List ℕ → Head
head_before zero s = start
head_before (suc b) s = head_of (block_at b s)

-- the fault of block b, after the block before it, or 0
abbrev pub fault_at : ℕ → List ℕ → ℕ
fault_at b s = fault_of (b + 1) (head_before b s) (block_at b s)

-- block b has the fault f, and no block before it has one
pub record FirstAtFault (s : List ℕ) (f : ℕ) : Type 0 where
  pub block : ℕ
  pub inside : block < length s / 512
  pub earlier : (j : ℕ) → j < block → fault_at j s ≡ 0
  pub here : fault_at block s ≡ f

-- the lowest number that applies to a block
pub fault-lowest : (place : ℕ) (before : Head) (s : List ℕ) (f : ℕ) → 0 < f → (fault_of place before s ≡ f) ↔ Lowest f (fault_rules place before s)
unfolding fault_of
fault-lowest place before s f l = first-lowest 40 (fault_rules place before s) tt f l

-- the blocks from block b on
faults-on : (n b : ℕ) (s : List ℕ) → fault_from (suc n) (b + 1) (head_before b s) (drop (512 * b) s) ≡ or_else (fault_at b s) (fault_from n (suc b + 1) (head_before (suc b) s) (drop (512 * suc b) s))
unfolding fault_from
faults-on n b s =
    let at : 512 * b + 512 ≡ 512 * suc b = omega arith in
    let next : b + 1 + 1 ≡ suc b + 1 = omega arith in
    rw (drop-drop 512 (512 * b) s, at, next)

-- the number that is met first, from block b on
record Met (n b : ℕ) (s : List ℕ) (f : ℕ) : Type 0 where
  pub block : ℕ
  pub low : b ≤ block
  pub high : block < b + n
  pub earlier : (j : ℕ) → b ≤ j → j < block → fault_at j s ≡ 0
  pub here : fault_at block s ≡ f

meets : (n b : ℕ) (s : List ℕ) (f : ℕ) → (f ≡ 0 → ⊥) → fault_from n (b + 1) (head_before b s) (drop (512 * b) s) ≡ f → Met n b s f
unfolding fault_from
meets zero b s f z e = absurd (z (sym e))
meets (suc n) b s f z e =
    let on : or_else (fault_at b s) (fault_from n (suc b + 1) (head_before (suc b) s) (drop (512 * suc b) s)) ≡ f = sym (faults-on n b s) ∙ e in
    elim (ℕ_discrete (fault_at b s) 0) [
      | yes g ↦
          let m = meets n (suc b) s f z (rw (eq-eqb (fault_at b s) 0 g) at on) in
          record {
            block = m.block;
            low = omega (arith, m.low);
            high = omega (arith, m.high);
            earlier = λ j l h. elim (ℕ_discrete j b) [ yes i ↦ ap (λ x. fault_at x s) i ∙ g | no i ↦ m.earlier j (omega arith) h ];
            here = m.here;
          }
      | no g ↦
          record {
            block = b;
            low = omega arith;
            high = omega arith;
            earlier = λ j l h. absurd (omega arith);
            here = rw (ne_eqb (fault_at b s) 0 g) at on;
          }
    ]

met : (n b : ℕ) (s : List ℕ) (f : ℕ) → (f ≡ 0 → ⊥) → Met n b s f → fault_from n (b + 1) (head_before b s) (drop (512 * b) s) ≡ f
unfolding fault_from
met zero b s f z m = absurd (omega (arith, m.low, m.high))
met (suc n) b s f z m =
    faults-on n b s
    ∙ elim (ℕ_discrete m.block b) [
      | yes i ↦
          let here : fault_at b s ≡ f = ap (λ x. fault_at x s) (sym i) ∙ m.here in
          rw (ne_eqb (fault_at b s) 0 (λ g. z (sym here ∙ g))) here
      | no i ↦
          let later = met n (suc b) s f z (record {
            block = m.block;
            low = omega (arith, m.low);
            high = omega (arith, m.high);
            earlier = λ j l h. m.earlier j (omega arith) h;
            here = m.here;
          }) in
          rw (eq-eqb (fault_at b s) 0 (m.earlier b (omega arith) (omega (arith, m.low)))) later
    ]

-- of a book of whole blocks, the first block at fault decides
pub first-decides : (s : List ℕ) (f : ℕ) → (f ≡ 0 → ⊥) → whole s ≡ true → (read_number s ≡ f) ↔ FirstAtFault s f
unfolding read_number
first-decides s f z w = (
  (λ e. let m = meets (length s / 512) 0 s f z (rw w at e) in
      record { block = m.block; inside = omega (arith, m.high); earlier = λ j h. m.earlier j (omega arith) h; here = m.here }),
  (λ r. rw w (met (length s / 512) 0 s f z (record {
    block = r.block;
    low = omega arith;
    high = omega (arith, r.inside);
    earlier = λ j l h. r.earlier j h;
    here = r.here;
  }))),
)

-- ---- 40

fault-not-40 : (place : ℕ) (before : Head) (s : List ℕ) → fault_of place before s ≡ 40 → ⊥
unfolding fault_of first
fault-not-40 place before s = by (checked place s) (formed s) (in_turn before (head_of s))
  where
    by : (a b c : Bool) → ◌≡◌ {A = ℕ} (pick a (pick b (pick c 0 43) 42) 41) 40 → ⊥
    by true true true e = omega arith
    by true true false e = omega arith
    by true false c e = omega arith
    by false b c e = omega arith

-- 40 exactly where the size is not whole blocks, or there are too many
pub size-exactly : (s : List ℕ) → (read_number s ≡ 40) ↔ (whole s ≡ false)
unfolding read_number
size-exactly s = ((λ e. by (whole s) refl e), λ w. rw w)
  where
    by : (w : Bool) → whole s ≡ w → read_number s ≡ 40 → whole s ≡ false
    by false q e = q
    by true q e = let r = (first-decides s 40 (λ z. omega arith) q).0 e in absurd (fault-not-40 _ _ _ r.here)

-- ---- an altered word

-- every block of a book that is taken has the right check
pub taken-checked : (n place : ℕ) (before : Head) (s : List ℕ) (b : ℕ) → b < n → fault_from n place before s ≡ 0 → checked (place + b) (block_at b s) ≡ true
unfolding fault_from
taken-checked zero place before s b l e = absurd (not-suc-le-zero l)
taken-checked (suc n) place before s zero l e = rw (add-zero place) (no-fault place before (take 512 s) (or-else-zero (fault_of place before (take 512 s)) _ e).0).0
taken-checked (suc n) place before s (suc b) l e =
    let at : place + 1 + b ≡ place + suc b = omega arith in
    let next : 512 + 512 * b ≡ 512 * suc b = omega arith in
    rw (drop-drop (512 * b) 512 s, next, at) at (taken-checked n (place + 1) _ (drop 512 s) b (omega arith) (or-else-zero (fault_of place before (take 512 s)) _ e).1)

-- a book with a block that differs in exactly one word from a sound book's is refused
pub altered-refused : (s t : List ℕ) → Bytes s → Bytes t → read_number s ≡ 0 → length t ≡ length s → (b k : ℕ) → b < length s / 512 → Altered k (block_at b s) (block_at b t)
    → read_number t ≡ 0 → ⊥
altered-refused s t bs bt sound long b k l a taken =
    let right = taken-checked (length s / 512) 1 start s b l (read_none s sound).1 in
    let still = taken-checked (length t / 512) 1 start t b (omega arith) (read_none t taken).1 in
    let wrong = altered-unchecked (1 + b) k (block_at b s) (block_at b t) (bytes_take 512 _ (bytes_drop (512 * b) s bs)) (bytes_take 512 _ (bytes_drop (512 * b) t bt)) a right in
    let z : ◌≡◌ {A = ℕ} 0 1 = cc in
    omega arith
