-- A part of the caller's book, total: the payload of a block, or the empty end; and one step of the loops over a field's parts.
-- Rests on books' Cursor.
use Rattle.std.specs.Prelude.{Some, None, ◌≡◌, refl, true, false, List, [], ◌∷◌, ◌++◌, ℕ, ◌+◌, ◌-◌, ◌*◌, ◌/◌, ◌<◌, ◌≤◌, min, leb, take, drop}
use Rattle.std.proofs.Math.Path.{sym, ap}
use Rattle.std.proofs.Common.{subst, ◌∙◌, length-append, length-take, length-drop, ext_get_or, le-leb}
use Rattle.std.proofs.Math.Decide.{dec_lt}
use native.Mathlib.Omega.{arith}
use Rattle.std.proofs.Math.ListN.{length, get_or}
use Rattle.std.proofs.Math.Seq.{get_or-take, get_or-drop}
use Rattle.std.proofs.lemmas.Bool.{lt-leb}
use Rattle.ground.specs.Pick.{pick}
use Rattle.ground.specs.Paste.{Pasted, length-pasted, pasted-none, pasted-then, pasted-all}
use Rattle.blocks.specs.declared.Head.{Head}
use Rattle.blocks.specs.Block.{head_of, size_of, payload_of, block_at, IsBlock, Part}
use Rattle.blocks.specs.Steps.{length-block-at}
use Rattle.books.specs.Book.{book_parts, at_block, at-end}
use Rattle.books.specs.Fields.{continues}
use Rattle.books.specs.Cursor.{run, run_bytes, bytes_of, field_at, bytes_at}

-- where the part handed back begins: after the opening of block b, or at the book's end where there is no block b
unfoldable pub part_start : List ℕ → ℕ → ℕ
part_start s b = pick (leb (length s / 512) b) (length s) (512 * b + 8)

-- the bytes handed back
unfoldable pub part_at : List ℕ → ℕ → List ℕ
part_at s b = pick (leb (length s / 512) b) [] (payload_of (block_at b s))

module _ (s : List ℕ) (b : ℕ) where
  pub no_part : length s / 512 ≤ b → take (length s - length s) (drop (length s) s) ≡ part_at s b
  unfolding part_at
  no_part l = let none : length s - length s ≡ 0 = omega arith in rw (le-leb (length s / 512) b l, none)

  pub no_start : length s / 512 ≤ b → length s ≡ part_start s b
  unfolding part_start
  no_start l = rw (le-leb (length s / 512) b l)

  pub a-start : b < length s / 512 → 512 * b + 8 ≡ part_start s b
  unfolding part_start
  a-start l = rw (lt-leb (length s / 512) b l)

  pub part-there : b < length s / 512 → part_at s b ≡ payload_of (block_at b s)
  unfolding part_at
  part-there l = rw (lt-leb (length s / 512) b l)

  -- the payload as the code takes it
  module _ (l : b < length s / 512) (size m : ℕ) (es : size ≡ size_of (block_at b s)) (em : m ≡ min size 504) where
    length-blk : length (block_at b s) ≡ 512
    length-blk = length-block-at b s l

    length_cut : length (take (512 * b + 8 + m - (512 * b + 8)) (drop (512 * b + 8) s)) ≡ m
    length_cut = simp (length-take, length-drop) (omega arith)

    length-payload : length (payload_of (block_at b s)) ≡ m
    unfolding payload_of
    length-payload = simp (length-take, length-drop) (omega (arith, length-blk))

    cut_at : (k : ℕ) → k < m → get_or (take (512 * b + 8 + m - (512 * b + 8)) (drop (512 * b + 8) s)) k 0 ≡ get_or (payload_of (block_at b s)) k 0
    unfolding payload_of
    cut_at k h =
        let i : 512 * b + 8 + k ≡ 512 * b + (8 + k) = omega arith in
        get_or-take (512 * b + 8 + m - (512 * b + 8)) (drop (512 * b + 8) s) k 0 (omega arith)
        ∙ get_or-drop (512 * b + 8) s k 0
        ∙ ap (λ n. get_or s n 0) i
        ∙ sym (get_or-take (size_of (block_at b s)) (drop 8 (block_at b s)) k 0 (omega arith) ∙ get_or-drop 8 (block_at b s) k 0 ∙ get_or-take 512 (drop (512 * b) s) (8 + k) 0 (omega arith) ∙ get_or-drop (512 * b) s (8 + k) 0)

    pub part_cut : take (512 * b + 8 + m - (512 * b + 8)) (drop (512 * b + 8) s) ≡ part_at s b
    part_cut = ext_get_or 0 _ _ (length_cut ∙ sym length-payload) (λ k h. cut_at k (omega (arith, length_cut))) ∙ sym (part-there l)

-- ---- which blocks go on with a field

pub stops-at-end : (s : List ℕ) (b : ℕ) → length s / 512 ≤ b → false ≡ continues (drop b (book_parts s))
stops-at-end s b l = rw (at-end s b l)

pub goes-on-at : {s x : List ℕ} {b : ℕ} {h : Head} → b < length s / 512 → IsBlock s b x → h ≡ head_of x → leb 1 h.part ≡ continues (drop b (book_parts s))
goes-on-at {s} {x} {b} l i e = rw (at_block s b l, e, i.is)

-- where a block goes on there is one
goes-on-there : (s : List ℕ) (b : ℕ) → true ≡ continues (drop b (book_parts s)) → b < length s / 512
goes-on-there s b t =
    elim (dec_lt b (length s / 512)) [ yes l ↦ l | no l ↦ absurd (let z = stops-at-end s b (omega arith) in let zz : ◌≡◌ {A = ℕ} 0 1 = cc in omega arith) ]

part-short : (s : List ℕ) (b : ℕ) → length (payload_of (block_at b s)) ≤ 512
unfolding payload_of
part-short s b = omega (arith, length-take (size_of (block_at b s)) (drop 8 (block_at b s)), length-drop 8 (block_at b s), length-take 512 (drop (512 * b) s))

-- a block that goes on adds its payload and one to the run
run_step : (s : List ℕ) (i : ℕ) → i < length s / 512 → true ≡ continues (drop i (book_parts s))
    → (run_bytes (drop i (book_parts s)) ≡ payload_of (block_at i s) ++ run_bytes (drop (i + 1) (book_parts s))) × (run (drop i (book_parts s)) ≡ 1 + run (drop (i + 1) (book_parts s)))
unfolding run run_bytes
run_step s i l t =
    let on : leb 1 (head_of (block_at i s)).part ≡ true = sym (t ∙ ap continues (at_block s i l)) in
    (ap run_bytes (at_block s i l) ∙ rw on, ap run (at_block s i l) ∙ rw on)

run-stop : (ps : List Part) → false ≡ continues ps → (run_bytes ps ≡ []) × (run ps ≡ 0)
unfolding run run_bytes
run-stop [] t = (refl, refl)
run-stop (p ∷ ps) t = (rw (sym t), rw (sym t))

-- ---- the size: from block b + 1 up to i the field goes on

pub record Run (s : List ℕ) (b first size i : ℕ) : Type 0 where
  pub low : b < i
  pub high : i ≤ length s / 512
  pub bound : size ≤ 512 * (i - b)
  pub bytes : size + length (run_bytes (drop i (book_parts s))) ≡ first + length (run_bytes (drop (b + 1) (book_parts s)))
  pub blocks : i + run (drop i (book_parts s)) ≡ b + 1 + run (drop (b + 1) (book_parts s))

pub run_none : (s : List ℕ) (b first : ℕ) → b < length s / 512 → first ≡ length (part_at s b) → Run s b first first (b + 1)
run_none s b first l e =
    record { low = omega arith; high = omega arith; bound = omega (arith, part-short s b, ap length (part-there s b l)); bytes = refl; blocks = refl }

pub run-next : {s : List ℕ} {b first size i : ℕ} (x : ℕ) → Run s b first size i → true ≡ continues (drop i (book_parts s)) → x ≡ length (part_at s i)
    → Run s b first (size + x) (i + 1)
run-next {s} {b} {first} {size} {i} x r t e =
    let l = goes-on-there s i t in
    let step = run_step s i l t in
    let more : length (run_bytes (drop i (book_parts s))) ≡ length (payload_of (block_at i s)) + length (run_bytes (drop (i + 1) (book_parts s)))
    = ap length step.0 ∙ length-append (payload_of (block_at i s)) (run_bytes (drop (i + 1) (book_parts s))) in
    let is = ap length (part-there s i l) in
    record {
      low = omega (arith, r.low);
      high = omega arith;
      bound = omega (arith, r.bound, r.low, part-short s i);
      bytes = omega (arith, r.bytes);
      blocks = omega (arith, step.1, r.blocks);
    }

-- what the loop adds stays far below 2^64
pub run_small : {s : List ℕ} {b first size i : ℕ} {x : ℕ} → Run s b first size i → true ≡ continues (drop i (book_parts s)) → x ≡ length (part_at s i)
    → (size + x ≤ length s) × (i < length s / 512)
run_small {s} {b} {first} {size} {i} {x} r t e =
    let n = run-next x r t e in
    let l = goes-on-there s i t in
    (omega (arith, n.bound, n.low, n.high), l)

pub run_end : {s x : List ℕ} {b first size i : ℕ} {h : Head} → Run s b first size i → b < length s / 512 → false ≡ continues (drop i (book_parts s)) → IsBlock s b x → h ≡ head_of x
    → first ≡ length (part_at s b) → Some (record { exercise = h.exercise; kind = h.kind; size = size; after = i }) ≡ field_at s b
unfolding field_at
run_end {s} {x} {b} {first} {size} {i} {h} r l t is_Block eh ef =
    let e : h ≡ head_of (block_at b s) = eh ∙ ap head_of is_Block.is in
    let stop = run-stop (drop i (book_parts s)) t in
    let none = ap length stop.0 in
    let is = ap length (part-there s b l) in
    let bytes : size ≡ length (payload_of (block_at b s) ++ run_bytes (drop (b + 1) (book_parts s)))
    = sym (length-append (payload_of (block_at b s)) (run_bytes (drop (b + 1) (book_parts s))) ∙ omega (arith, r.bytes)) in
    let blocks : i ≡ b + 1 + run (drop (b + 1) (book_parts s)) = omega (arith, stop.1, r.blocks) in
    rw (at_block s b l, e, bytes, blocks)

pub end-at : (s : List ℕ) (b : ℕ) → length s / 512 ≤ b → None ≡ field_at s b
unfolding field_at
end-at s b l = rw (at-end s b l)

-- ---- the bytes: what is still to be copied, so that the whole is

-- from block b + 1 on the parts are to go into t₀ from byte at₀ on; in t those before block i have, and the next goes to byte `at`
pub record Copying (s : List ℕ) (b : ℕ) (t₀ : List ℕ) (at₀ : ℕ) (t : List ℕ) (at i : ℕ) : Type 0 where
  pub low : b < i
  pub high : i ≤ length s / 512
  pub long : length t ≡ length t₀
  pub room : at + length (run_bytes (drop i (book_parts s))) ≡ length t₀
  pub goes : (u : List ℕ) → Pasted t at (run_bytes (drop i (book_parts s))) u → Pasted t₀ at₀ (run_bytes (drop (b + 1) (book_parts s))) u

bytes-there : (s : List ℕ) (b : ℕ) → b < length s / 512 → bytes_at s b ≡ part_at s b ++ run_bytes (drop (b + 1) (book_parts s))
unfolding bytes_at
bytes-there s b l = ap bytes_of (at_block s b l) ∙ ap (λ y. y ++ run_bytes (drop (b + 1) (book_parts s))) (sym (part-there s b l))

bytes_count : (s : List ℕ) (b : ℕ) → b < length s / 512 → length (bytes_at s b) ≡ length (part_at s b) + length (run_bytes (drop (b + 1) (book_parts s)))
bytes_count s b l = ap length (bytes-there s b l) ∙ length-append (part_at s b) (run_bytes (drop (b + 1) (book_parts s)))

-- the first part has room
pub copy-room : {x : List ℕ} (out s : List ℕ) (b : ℕ) → b < length s / 512 → length out ≡ length (bytes_at s b) → x ≡ part_at s b → 0 + length x ≤ length out
copy-room out s b l e ex = omega (arith, bytes_count s b l, ap length ex)

pub copy-none : {out t x : List ℕ} {at : ℕ} (s : List ℕ) (b : ℕ) → b < length s / 512 → length out ≡ length (bytes_at s b) → x ≡ part_at s b → at ≡ 0 + length x → Pasted out 0 x t
    → Copying s b t at t at (b + 1)
copy-none {out} {t} {x} {at} s b l e ex ea p =
    record {
      low = omega arith;
      high = omega arith;
      long = refl;
      room = omega (arith, bytes_count s b l, ap length ex, length-pasted p);
      goes = λ u q. q;
    }

-- a part that goes on
run-part : (s : List ℕ) (i : ℕ) → true ≡ continues (drop i (book_parts s)) → run_bytes (drop i (book_parts s)) ≡ part_at s i ++ run_bytes (drop (i + 1) (book_parts s))
run-part s i on = let l = goes-on-there s i on in (run_step s i l on).0 ∙ ap (λ y. y ++ run_bytes (drop (i + 1) (book_parts s))) (sym (part-there s i l))

pub copy-asks : {s t₀ t x : List ℕ} {b at₀ at i : ℕ} → Copying s b t₀ at₀ t at i → true ≡ continues (drop i (book_parts s)) → x ≡ part_at s i
    → (at + length x ≤ length t) × (i < length s / 512)
copy-asks {s} {i = i} c on ex = (
  omega (arith, c.room, c.long, ap length (run-part s i on) ∙ length-append (part_at s i) (run_bytes (drop (i + 1) (book_parts s))), ap length ex),
  goes-on-there s i on,
)

pub copy-next : {s t₀ t t' x : List ℕ} {b at₀ at at' i : ℕ} → Copying s b t₀ at₀ t at i → true ≡ continues (drop i (book_parts s)) → x ≡ part_at s i
    → (at' ≡ at + length x) × Pasted t at x t' → Copying s b t₀ at₀ t' at' (i + 1)
copy-next {s} {t₀} {t} {t'} {x} {b} {at₀} {at} {at'} {i} c on ex (ea, p) =
    let l = goes-on-there s i on in
    let step : run_bytes (drop i (book_parts s)) ≡ x ++ run_bytes (drop (i + 1) (book_parts s)) = run-part s i on ∙ ap (λ y. y ++ run_bytes (drop (i + 1) (book_parts s))) (sym ex) in
    let sum = ap length step ∙ length-append x (run_bytes (drop (i + 1) (book_parts s))) in
    record {
      low = omega (arith, c.low);
      high = omega arith;
      long = length-pasted p ∙ c.long;
      room = omega (arith, c.room);
      goes = λ u q. c.goes u (subst (λ y. Pasted t at y u) (sym step) (pasted-then p ea q));
    }

pub copy-end : {s out t₀ t x : List ℕ} {b at₀ at i : ℕ} → b < length s / 512 → length out ≡ length (bytes_at s b) → x ≡ part_at s b → (at₀ ≡ 0 + length x) × Pasted out 0 x t₀
    → Copying s b t₀ at₀ t at i → false ≡ continues (drop i (book_parts s)) → t ≡ bytes_at s b
copy-end {s} {out} {t₀} {t} {x} {b} {at₀} {at} {i} l e ex (ea, p) c off =
    let none = (run-stop (drop i (book_parts s)) off).0 in
    let last : Pasted t at (run_bytes (drop i (book_parts s))) t = subst (λ y. Pasted t at y t) (sym none) (pasted-none t at (omega (arith, c.room, c.long))) in
    let whole : bytes_at s b ≡ x ++ run_bytes (drop (b + 1) (book_parts s)) = bytes-there s b l ∙ ap (λ y. y ++ run_bytes (drop (b + 1) (book_parts s))) (sym ex) in
    pasted-all (subst (λ y. Pasted out 0 y t) (sym whole) (pasted-then p ea (c.goes t last))) (sym e)
