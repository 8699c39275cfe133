-- Salvage of a bad card (page 02, Req 14): which blocks are good, which exercises are spoiled, what is kept, and what is listed of each old block.
-- Rests on Book.
use Rattle.std.proofs.Math.Path.{◌≡◌, refl}
use Rattle.std.proofs.Common.{sym, ap, subst, ◌∙◌, not-suc-le-zero, add-zero, length-drop, drop-drop, length-take-le, eq-eqb, ne_eqb}
use Rattle.std.specs.Prelude.{Bool, eqb, leb, get_or, take, drop}
use Rattle.std.proofs.Math.Bool.{true, false}
use mathlib.Core.List.{List, [], ◌∷◌}
use Prim.Native.Nat.{ℕ, zero, suc, ◌+◌, ◌*◌, ◌/◌, ◌<◌, ◌≤◌}
use Rattle.std.proofs.Math.Decide.{ℕ_discrete}
use native.Mathlib.Omega.{arith}
use Rattle.std.proofs.Math.ListN.{length}
use Rattle.ground.specs.Pick.{pick, both}
use Rattle.blocks.specs.declared.Head.{Head}
use Rattle.blocks.specs.Block.{head_of, Part, part_of, block_at, checked, formed}
use Rattle.blocks.specs.Altered.{Bytes, SameBut, unaltered}
use Rattle.blocks.specs.Codec.{Fits, formed-says, part-fits}
use Rattle.blocks.specs.Turn.{either, InTurn, next, begins, rank, start, fault_of, no-fault, in-turn-says}
use Rattle.books.specs.Book.{whole, read_number, written, Chain, chain-none, chain_more, bytes_take, bytes_drop, read_none, written-accepted, whole_says}
use Rattle.books.specs.Reading.{taken-checked}

-- a block of the old book: its fault, or 0 where it is good, and what it holds
pub record Judged : Type 0 where
  pub number : ℕ
  pub part : Part

-- n blocks, the first at a place; each is judged against the nearest good block before it, or as the first
unfoldable pub judged : ℕ → ℕ → Head → List ℕ → List Judged
judged zero place before s = []
judged (suc n) place before s =
    record { number = fault_of place before (take 512 s); part = part_of (take 512 s) }
    ∷ judged n (place + 1) (pick (eqb (fault_of place before (take 512 s)) 0) (head_of (take 512 s)) before) (drop 512 s)

-- the nearest good block after: kind 0 where there is none
abbrev pub first_good : List Judged → Head
first_good [] = start
first_good (j ∷ js) = pick (eqb j.number 0) j.part.head (first_good js)

-- h is a block's head, and of exercise e
abbrev pub is_of : ℕ → Head → Bool
is_of e h = both (leb 1 h.kind) (eqb h.exercise e)

-- a bad block spoils the exercises of the nearest good block before and after it, and one listed 43 also its own
unfoldable pub spoiled : ℕ → Head → List Judged → Bool
spoiled e before [] = false
spoiled e before (j ∷ js) =
    pick (eqb j.number 0) (spoiled e j.part.head js)
    (either (is_of e before) (either (is_of e (first_good js)) (either (both (eqb j.number 43) (eqb j.part.head.exercise e)) (spoiled e before js))))

-- the parts of the good blocks whose exercise is not spoiled
unfoldable pub kept : (ℕ → Bool) → List Judged → List Part
kept spoils [] = []
kept spoils (j ∷ js) = pick (eqb j.number 0) (pick (spoils j.part.head.exercise) (kept spoils js) (j.part ∷ kept spoils js)) (kept spoils js)

-- 0 kept, 41 to 43 bad, 44 good but spoiled
unfoldable pub listed : (ℕ → Bool) → List Judged → List ℕ
listed spoils [] = []
listed spoils (j ∷ js) = pick (eqb j.number 0) (pick (spoils j.part.head.exercise) 44 0) j.number ∷ listed spoils js

-- of a book
abbrev pub blocks_of : List ℕ → List Judged
blocks_of s = judged (length s / 512) 1 start s

abbrev pub spoils : List ℕ → ℕ → Bool
spoils s e = spoiled e start (blocks_of s)

unfoldable pub kept_parts : List ℕ → List Part
kept_parts s = kept (spoils s) (blocks_of s)

unfoldable pub numbers_of : List ℕ → List ℕ
numbers_of s = listed (spoils s) (blocks_of s)

unfoldable pub salvaged : List ℕ → List ℕ
salvaged s = written 1 (kept_parts s)

-- ---- the reader takes the new book

pub data Judging : Head → List Judged → Type 0 where
  none : {before : Head} → Judging before []
  good : {before : Head} {j : Judged} {js : List Judged} → j.number ≡ 0 → Fits j.part → InTurn before j.part.head → Judging j.part.head js → Judging before (j ∷ js)
  bad : {before : Head} {j : Judged} {js : List Judged} → (j.number ≡ 0 → ⊥) → Judging before js → Judging before (j ∷ js)

pub judging : (n place : ℕ) (before : Head) (s : List ℕ) → length s ≡ 512 * n → before.kind ≤ 7 → Judging before (judged n place before s)
unfolding judged
judging zero place before s l k = none
judging (suc n) place before s l k =
    let long : length (take 512 s) ≡ 512 = length-take-le 512 s (omega arith) in
    let left : length (drop 512 s) ≡ 512 * n = simp length-drop (omega arith) in
    elim (ℕ_discrete (fault_of place before (take 512 s)) 0) [
      | yes e ↦
          let fine = no-fault place before (take 512 s) e in
          let fits = part-fits (take 512 s) long (formed-says (take 512 s) fine.1.0) in
          let rest : Judging (head_of (take 512 s))
          (judged n (place + 1) (pick (eqb (fault_of place before (take 512 s)) 0) (head_of (take 512 s)) before) (drop 512 s))
          = rw (eq-eqb (fault_of place before (take 512 s)) 0 e) (judging n (place + 1) (head_of (take 512 s)) (drop 512 s) left fits.high) in
          good e fits (in-turn-says before (head_of (take 512 s)) k fits.high fine.1.1) rest
      | no e ↦
          let rest : Judging before (judged n (place + 1) (pick (eqb (fault_of place before (take 512 s)) 0) (head_of (take 512 s)) before) (drop 512 s))
          = rw (ne_eqb (fault_of place before (take 512 s)) 0 e) (judging n (place + 1) before (drop 512 s) left k) in
          bad e rest
    ]

-- whole exercises can be left out of a chain, whichever they are: k is the last block kept, `before` the last good one
module _ (out : ℕ → Bool) where
  pub record Behind (k before : Head) : Type 0 where
    pub low : rank k ≤ rank before
    pub same : 1 ≤ before.kind → out before.exercise ≡ false → k ≡ before

  turn-kept : {k before h : Head} → Behind k before → 1 ≤ h.kind → out h.exercise ≡ false → InTurn before h → InTurn k h
  turn-kept {k} {before} {h} b l o (next x y z) =
      subst (λ a. InTurn a h) (sym (b.same (omega arith) (ap out (sym x) ∙ o))) (next x y z)
  turn-kept {k} {before} {h} b l o (begins z r) = begins {before = k} {h = h} z (omega (arith, b.low))

  rank_up : {before h : Head} → InTurn before h → rank before ≤ rank h
  rank_up (next x y z) = omega arith
  rank_up (begins z r) = omega arith

  kept-chain : {before : Head} {js : List Judged} → Judging before js → (k : Head) → Behind k before → Chain k (kept out js)
  unfolding kept
  kept-chain none k b = chain-none
  kept-chain (bad {j = j} n js) k b = rw (ne_eqb _ 0 n) (kept-chain js k b)
  kept-chain (good {j = j} {js = js} e f t rest) k b = rw (eq-eqb _ 0 e) (by (out j.part.head.exercise) refl (λ k' b'. kept-chain rest k' b'))
    where
      by : (o : Bool) → out j.part.head.exercise ≡ o → ((k' : Head) → Behind k' j.part.head → Chain k' (kept out js))
          → Chain k (pick (out j.part.head.exercise) (kept out js) (j.part ∷ kept out js))
      by true o later =
          rw o (later k (record { low = omega (arith, b.low, rank_up t); same = λ l u. absurd (let z : ◌≡◌ {A = ℕ} 0 1 = cc in omega arith) }))
      by false o later = rw o (chain_more f (turn-kept b f.low o t) (later j.part.head (record { low = omega arith; same = λ l u. refl })))

  length-kept : (js : List Judged) → length (kept out js) ≤ length js
  unfolding kept
  length-kept [] = omega arith
  length-kept (j ∷ js) = by (eqb j.number 0) (out j.part.head.exercise) (length-kept js)
    where
      by : (g o : Bool) → length (kept out js) ≤ length js → length (pick g (pick o (kept out js) (j.part ∷ kept out js)) (kept out js)) ≤ suc (length js)
      by true true l = omega arith
      by true false l = omega arith
      by false o l = omega arith

pub length-judged : (n place : ℕ) (before : Head) (s : List ℕ) → length (judged n place before s) ≡ n
unfolding judged
length-judged zero place before s = refl
length-judged (suc n) place before s = ap suc (length-judged n _ _ _)

-- what is kept is in turn
pub kept-in-turn : (s : List ℕ) → whole s ≡ true → Chain start (kept_parts s)
unfolding kept_parts
kept-in-turn s w = kept-chain (spoils s) (judging (length s / 512) 1 start s (whole_says s w).0 (omega arith)) start (record { low = omega arith; same = λ k u. refl })

pub kept-few : (s : List ℕ) → length (kept_parts s) ≤ length s / 512
unfolding kept_parts
kept-few s = omega (arith, length-kept (spoils s) (blocks_of s), length-judged (length s / 512) 1 start s)

-- the reader takes the salvaged book
pub salvaged-read : (s : List ℕ) → whole s ≡ true → read_number (salvaged s) ≡ 0
unfolding salvaged
salvaged-read s w = written-accepted (kept_parts s) (kept-in-turn s w) (omega (arith, kept-few s, (whole_says s w).1))

-- ---- each block of a sound book with at most one word altered

listed-good : (v : ℕ) (o : Bool) → pick (eqb v 0) (pick o 44 0) v ≡ 0 → v ≡ 0
listed-good v o e = elim (ℕ_discrete v 0) [ yes z ↦ z | no z ↦ rw (ne_eqb v 0 z) at e ]

block-next : (b : ℕ) (s : List ℕ) → block_at b (drop 512 s) ≡ block_at (suc b) s
block-next b s = let at : 512 + 512 * b ≡ 512 * suc b = omega arith in ap (take 512) (drop-drop (512 * b) 512 s ∙ ap (λ n. drop n s) at)

good-sound : (out : ℕ → Bool) (n place : ℕ) (before : Head) (s : List ℕ) (b : ℕ) → b < n → get_or (listed out (judged n place before s)) b 1 ≡ 0
    → (checked (place + b) (block_at b s) ≡ true) × (formed (block_at b s) ≡ true)
unfolding listed judged
good-sound out zero place before s b l e = absurd (not-suc-le-zero l)
good-sound out (suc n) place before s zero l e =
    let fine = no-fault place before (take 512 s) (listed-good _ (out (head_of (take 512 s)).exercise) e) in rw (add-zero place) (fine.0, fine.1.0)
good-sound out (suc n) place before s (suc b) l e =
    let at : place + 1 + b ≡ place + suc b = omega arith in
    rw (block-next b s, at) at (good-sound out n (place + 1) _ (drop 512 s) b (omega arith) e)

-- a block that is listed 0 is formed
pub kept-formed : (s : List ℕ) (b : ℕ) → b < length s / 512 → get_or (numbers_of s) b 1 ≡ 0 → formed (block_at b s) ≡ true
unfolding numbers_of
kept-formed s b l e = (good-sound (spoils s) (length s / 512) 1 start s b l e).1

-- each block has at most one word altered
pub record Worn (n : ℕ) (s t : List ℕ) : Type 0 where
  pub long : length t ≡ length s
  pub one : (b : ℕ) → b < n → ℕ
  pub word : (b : ℕ) (l : b < n) → one b l < 128
  pub rest : (b : ℕ) (l : b < n) → SameBut (one b l) (block_at b s) (block_at b t)

-- every kept block is the original's, payload and all
pub kept-original : (s t : List ℕ) → Bytes s → Bytes t → read_number s ≡ 0 → Worn (length s / 512) s t → (b : ℕ) → b < length s / 512 → get_or (numbers_of t) b 1 ≡ 0
    → block_at b t ≡ block_at b s
unfolding numbers_of
kept-original s t bs bt sound worn b l e =
    let w = read_none s sound in
    let long = whole_says s w.0 in
    let there : length (block_at b s) ≡ 512 = length-take-le 512 (drop (512 * b) s) (simp length-drop (omega (arith, long.0))) in
    let there' : length (block_at b t) ≡ 512 = length-take-le 512 (drop (512 * b) t) (simp length-drop (omega (arith, long.0, worn.long))) in
    let n : length t / 512 ≡ length s / 512 = ap (λ m. m / 512) worn.long in
    unaltered (1 + b) (worn.one b l) (block_at b s) (block_at b t) (bytes_take 512 _ (bytes_drop (512 * b) s bs)) (bytes_take 512 _ (bytes_drop (512 * b) t bt)) there there' (worn.word b l)
    (worn.rest b l)
    (taken-checked (length s / 512) 1 start s b l w.1)
    (good-sound (spoils t) (length t / 512) 1 start t b (omega arith) e).0
