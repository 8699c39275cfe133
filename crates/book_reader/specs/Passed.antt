-- One step of the reader's loop over the blocks: what its proofs cite.
-- Rests on Book.
use Rattle.std.specs.Prelude.{◌≡◌, true, false, List, ℕ, suc, ◌+◌, ◌-◌, ◌*◌, ◌/◌, ◌<◌, ◌≤◌, length, drop}
use Rattle.std.proofs.Common.{sym, ap, ◌∙◌, arith, drop-drop, ne_eqb}
use Rattle.blocks.specs.declared.Head.{Head}
use Rattle.blocks.specs.Block.{head_of, block_at, IsBlock}
use Rattle.blocks.specs.Turn.{start, fault_of}
use Rattle.books.specs.Book.{or_else, fault_from, whole, read_number}

fault-step : (n b : ℕ) (before : Head) (s : List ℕ) → b < n
    → fault_from (n - b) (b + 1) before (drop (512 * b) s)
    ≡ or_else (fault_of (b + 1) before (block_at b s)) (fault_from (n - (b + 1)) (b + 1 + 1) (head_of (block_at b s)) (drop (512 * (b + 1)) s))
unfolding fault_from
fault-step n b before s l =
    let more : n - b ≡ suc (n - (b + 1)) = omega arith in
    let at : 512 * b + 512 ≡ 512 * (b + 1) = omega arith in
    rw (more, drop-drop 512 (512 * b) s, at)

-- the first b of n blocks are passed, and `before` is the head of the last of them
pub record Passed (s : List ℕ) (n b : ℕ) (before : Head) : Type 0 where
  pub upto : b ≤ n
  pub same : fault_from (n - b) (b + 1) before (drop (512 * b) s) ≡ fault_from n 1 start s

pub passed_none : (s : List ℕ) (n : ℕ) → Passed s n 0 start
passed_none s n = record { upto = omega arith; same = let e : n - 0 ≡ n = omega arith in rw e }

module _ {s x : List ℕ} {n b : ℕ} {before : Head} {f : ℕ} (p : Passed s n b before) (l : b < n) (i : IsBlock s b x) (e : f ≡ fault_of (b + 1) before x) where
  here : f ≡ fault_of (b + 1) before (block_at b s)
  here = e ∙ ap (fault_of (b + 1) before) i.is

  -- a block at fault decides
  pub passed-stop : (f ≡ 0 → ⊥) → f ≡ fault_from n 1 start s
  passed-stop z = sym (fault-step n b before s l ∙ rw (sym here, ne_eqb f 0 z)) ∙ p.same

  -- a block that is fine is passed
  pub passed-next : {h : Head} → f ≡ 0 → h ≡ head_of x → Passed s n (b + 1) h
  passed-next {h} z k = record { upto = omega arith; same = rw (k ∙ ap head_of i.is) (sym (fault-step n b before s l ∙ rw (sym here, z)) ∙ p.same) }

pub passed-end : {s : List ℕ} {n b : ℕ} {before : Head} → Passed s n b before → n ≤ b → 0 ≡ fault_from n 1 start s
unfolding fault_from
passed-end {s} {n} {b} p l = let e : n - b ≡ 0 = omega arith in rw e at p.same

pub read_whole : {n : ℕ} (s : List ℕ) → whole s ≡ true → n ≡ fault_from (length s / 512) 1 start s → n ≡ read_number s
unfolding read_number
read_whole s w e = rw w e

pub read-40 : (s : List ℕ) → whole s ≡ false → 40 ≡ read_number s
unfolding read_number
read-40 s w = rw w
