-- The first pass of salvage as the code goes: the faults of the blocks, one after the other into the list.
-- Rests on books' Salvage and on ground's Paste.
use Rattle.std.specs.Prelude.{◌≡◌, refl, Bool, true, false, List, [], ◌∷◌, ℕ, zero, suc, ◌+◌, ◌-◌, ◌*◌, ◌/◌, ◌<◌, ◌≤◌, eqb, length, get_or, drop, set, ◌≢◌}
use Rattle.std.proofs.Common.{sym, ap, ◌∙◌, not-suc-le-zero, arith, drop-drop, ne_eqb}
use Rattle.ground.specs.Pick.{pick}
use Rattle.ground.specs.Answers.{first}
use Rattle.ground.specs.Paste.{Pasted, length-pasted, pasted-none, pasted-then, pasted-all, pasted-one}
use Rattle.blocks.specs.declared.Head.{Head}
use Rattle.blocks.specs.Block.{head_of, part_of, block_at, IsBlock, checked, formed}
use Rattle.blocks.specs.Turn.{start, in_turn, fault_of}
use Rattle.books.specs.Book.{whole}
use Rattle.books.specs.Salvage.{judged, blocks_of}
use Rattle.books.specs.Salvage.{Judged as BlockJudged}

-- the faults of blocks that are judged
unfoldable pub faults : List BlockJudged → List ℕ
faults [] = []
faults (j ∷ js) = j.number ∷ faults js

abbrev pub faults_of : List ℕ → List ℕ
faults_of s = faults (blocks_of s)

-- a book of whole blocks, and a list with a number for each
pub record Whole (s list : List ℕ) : Type 0 where
  pub is : whole s ≡ true
  pub long : length list ≡ length s / 512

-- and the list holds the faults
pub record Judged (s list : List ℕ) : Type 0 where
  pub is : whole s ≡ true
  pub holds : list ≡ faults_of s

pub fault-lt : (place : ℕ) (before : Head) (s : List ℕ) → fault_of place before s < 256
unfolding fault_of first
fault-lt place before s = by (checked place s) (formed s) (in_turn before (head_of s))
  where
    by : (a b c : Bool) → pick a (pick b (pick c 0 43) 42) 41 < 256
    by true true true = omega arith
    by true true false = omega arith
    by true false c = omega arith
    by false b c = omega arith

-- ---- the loop: the first b blocks are judged, and `before` is the nearest good block before block b

pub record Judges (s l₀ : List ℕ) (n b : ℕ) (before : Head) (l : List ℕ) : Type 0 where
  pub upto : b ≤ n
  pub long : length l ≡ length l₀
  pub goes : (u : List ℕ) → Pasted l b (faults (judged (n - b) (b + 1) before (drop (512 * b) s))) u → Pasted l₀ 0 (faults (judged n 1 start s)) u

pub judges-none : (s l : List ℕ) (n : ℕ) → Judges s l n 0 start l
judges-none s l n = record { upto = omega arith; long = refl; goes = λ u p. let e : n - 0 ≡ n = omega arith in rw e at p }

faults-step : (n b : ℕ) (before : Head) (s : List ℕ) → b < n
    → faults (judged (n - b) (b + 1) before (drop (512 * b) s))
    ≡ fault_of (b + 1) before (block_at b s)
    ∷ faults (judged (n - (b + 1)) (b + 1 + 1) (pick (eqb (fault_of (b + 1) before (block_at b s)) 0) (head_of (block_at b s)) before) (drop (512 * (b + 1)) s))
unfolding faults judged
faults-step n b before s l =
    let more : n - b ≡ suc (n - (b + 1)) = omega arith in
    let at : 512 * b + 512 ≡ 512 * (b + 1) = omega arith in
    rw (more, drop-drop 512 (512 * b) s, at)

-- the head to judge the next block against: a good block's own, else the one before it
pub next-good : {f : ℕ} {h next : Head} (before : Head) → f ≡ 0 → next ≡ h → next ≡ pick (eqb f 0) h before
next-good before e is = is ∙ sym (rw e)

pub next-bad : {f : ℕ} {before next : Head} (h : Head) → (f ≢ 0) → next ≡ before → next ≡ pick (eqb f 0) h before
next-bad h e is = is ∙ sym (rw (ne_eqb _ 0 e))

pub judges-next : {s x l₀ l : List ℕ} {n b f : ℕ} {before h next : Head} → Judges s l₀ n b before l → b < n → b < length l₀ → IsBlock s b x → f ≡ fault_of (b + 1) before x
    → h ≡ head_of x → next ≡ pick (eqb f 0) h before → Judges s l₀ n (b + 1) next (set l b f)
judges-next {s} {x} {l₀} {l} {n} {b} {f} {before} {h} {next} j below inside i fx hx en =
    let ef : f ≡ fault_of (b + 1) before (block_at b s) = fx ∙ ap (fault_of (b + 1) before) i.is in
    let eh : h ≡ head_of (block_at b s) = hx ∙ ap head_of i.is in
    let one : Pasted l b (f ∷ []) (set l b f) = pasted-one l b f (omega (arith, j.long)) in
    let next-is : next ≡ pick (eqb (fault_of (b + 1) before (block_at b s)) 0) (head_of (block_at b s)) before = rw (ef, eh) at en in
    record {
      upto = omega arith;
      long = length-pasted one ∙ j.long;
      goes = λ u p. j.goes u (rw (faults-step n b before s below, ← ef) (pasted-then one refl (rw (next-is, ← ef) at p)));
    }

length-faults : (n place : ℕ) (before : Head) (s : List ℕ) → length (faults (judged n place before s)) ≡ n
unfolding faults judged
length-faults zero place before s = refl
length-faults (suc n) place before s = ap suc (length-faults n _ _ _)

pub length-faults-of : (s : List ℕ) → length (faults_of s) ≡ length s / 512
length-faults-of s = length-faults (length s / 512) 1 start s

pub judges-end : {s l₀ l : List ℕ} {n b : ℕ} {before : Head} → Judges s l₀ n b before l → n ≤ b → length l₀ ≡ n → l ≡ faults (judged n 1 start s)
unfolding faults judged
judges-end {s} {l₀} {l} {n} {b} {before} j done long =
    let e : n - b ≡ 0 = omega arith in
    let none : Pasted l b (faults (judged (n - b) (b + 1) before (drop (512 * b) s))) l = rw e (pasted-none l b (omega (arith, j.upto, j.long))) in
    pasted-all (j.goes l none) (length-faults n 1 start s ∙ sym long)

-- ---- the block that is judged, by its place

judged-at : (n place : ℕ) (before : Head) (s : List ℕ) (b : ℕ) → b < n
    → drop b (judged n place before s)
    ≡ record { number = get_or (faults (judged n place before s)) b 0; part = part_of (block_at b s) } ∷ drop (b + 1) (judged n place before s)
unfolding judged faults
judged-at zero place before s b l = absurd (not-suc-le-zero l)
judged-at (suc n) place before s zero l = refl
judged-at (suc n) place before s (suc b) l =
    let next : suc b + 1 ≡ suc (b + 1) = omega arith in
    let at : 512 * suc b ≡ 512 + 512 * b = omega arith in
    rw (next, at, ← drop-drop (512 * b) 512 s) (judged-at n (place + 1) _ (drop 512 s) b (omega arith))

pub block-judged : (s : List ℕ) (b : ℕ) → b < length s / 512
    → drop b (blocks_of s) ≡ record { number = get_or (faults_of s) b 0; part = part_of (block_at b s) } ∷ drop (b + 1) (blocks_of s)
block-judged s b l = judged-at (length s / 512) 1 start s b l
