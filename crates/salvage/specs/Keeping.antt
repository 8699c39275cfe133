-- The fourth pass: the blocks that are listed 0, one after the other into the output.
-- Rests on books' Going and Kept.
use Rattle.std.specs.Prelude.{◌≡◌, refl, Bool, true, false, List, [], ◌∷◌, ◌++◌, ℕ, zero, suc, ◌+◌, ◌-◌, ◌*◌, ◌/◌, ◌<◌, ◌≤◌, eqb, length, get_or, drop}
use Rattle.std.proofs.Common.{sym, ap, ap₂, subst, ◌∙◌, append-nil, add-one, arith, length-append, drop-cons, eq-eqb, ne_eqb}
use Rattle.std.proofs.Math.Decide.{ℕ_discrete}
use borrow.Rule.Slice.PartMut.{put_mid}
use Rattle.ground.specs.Pick.{pick}
use Rattle.ground.specs.Outcome.{unique-equation}
use Rattle.ground.specs.Paste.{Pasted, pasted-none, pasted-mid}
use Rattle.blocks.specs.declared.Head.{Head}
use Rattle.blocks.specs.Block.{head_of, payload_of, Part, part_of, block_at, IsBlock, block_of}
use Rattle.blocks.specs.Made.{part_with, length-small}
use Rattle.books.specs.Book.{whole, whole_says, book_parts, at_block, at-end, written}
use Rattle.books.specs.Going.{Small, small-none, small-more, Going, going-none, going_more, going_end}
use Rattle.books.specs.Salvage.{numbers_of, kept_parts, salvaged}
use Rattle.books.specs.Kept.{kept_by, kept_by_lem, length-numbers, kept-fits}

-- block b of the book where it is listed 0, else nothing
abbrev pub kept_one : List ℕ → ℕ → ℕ → List Part
kept_one s b number = pick (eqb number 0) (part_of (block_at b s) ∷ []) []

-- what keeping a block asks: there is one, a payload that fits where it is listed 0, a book that is not too long, and room
pub record KeepAsks (out : List ℕ) (k : ℕ) (s : List ℕ) (b number : ℕ) : Type 0 where
  pub there : b < length s / 512
  pub small : number ≡ 0 → length (payload_of (block_at b s)) ≤ 500
  pub few : length s / 512 ≤ 65536
  pub fewer : k ≤ b
  pub room : 512 * k + 512 ≤ length out

-- and what it does
pub record Keeps (out : List ℕ) (k : ℕ) (s : List ℕ) (b number r : ℕ) (t : List ℕ) : Type 0 where
  pub next : r ≡ k + length (kept_one s b number)
  pub pasted : Pasted out (512 * k) (written (k + 1) (kept_one s b number)) t

-- what the fourth pass asks
pub record Listed (out s list : List ℕ) : Type 0 where
  pub is : whole s ≡ true
  pub holds : list ≡ numbers_of s
  pub long : length out ≡ length s

-- and what it does: the new book stands at the start of the output, and what follows stays
pub record KeptAll (out s : List ℕ) (r : ℕ) (t : List ℕ) : Type 0 where
  pub count : r ≡ length (kept_parts s)
  pub pasted : Pasted out 0 (salvaged s) t

pub unique-keep : {out s : List ℕ} {r r' : ℕ} {t t' : List ℕ} → KeptAll out s r t → KeptAll out s r' t' → (r ≡ r') × (t ≡ t')
unique-keep a b = (unique-equation a.count b.count, unique-equation a.pasted.is b.pasted.is)

-- ---- one block

pub keeps-not : {out s : List ℕ} {k b number : ℕ} → KeepAsks out k s b number → (number ≡ 0 → ⊥) → Keeps out k s b number k out
unfolding written
keeps-not {out} {s} {k} {b} {number} a n = record { next = rw (ne_eqb number 0 n) (omega arith); pasted = rw (ne_eqb number 0 n) (pasted-none out (512 * k) (omega (arith, a.room))) }

pub keeps-one : {out s x d y : List ℕ} {k b number : ℕ} {h : Head} → KeepAsks out k s b number → number ≡ 0 → IsBlock s b x → h ≡ head_of x → d ≡ payload_of (block_at b s)
    → y ≡ block_of (k + 1) (part_with h d) → Keeps out k s b number (k + 1) (put_mid (512 * k) (512 * k + 512 - 512 * k) out y)
unfolding written
keeps-one {out} {s} {x} {d} {y} {k} {b} {number} {h} a n i hx ed ey =
    let at : 512 * k + 512 - 512 * k ≡ 512 = omega arith in
    let h-is : h ≡ head_of (block_at b s) = hx ∙ ap head_of i.is in
    let y-is : y ≡ block_of (k + 1) (part_of (block_at b s)) = ey ∙ rw (h-is, ed) in
    record {
      next = rw (eq-eqb number 0 n);
      pasted = rw (eq-eqb number 0 n, at, append-nil (block_of (k + 1) (part_of (block_at b s)))) (pasted-mid (512 * k) 512 y-is (length-small (k + 1) (part_of (block_at b s)) (a.small n)) a.room);
    }

-- ---- the loop: k of the first b blocks are kept, and what is kept of the others is still to come

pub record Keeping (out s list : List ℕ) (n k b : ℕ) (t : List ℕ) : Type 0 where
  pub upto : b ≤ n
  pub fewer : k ≤ b
  pub going : Going out 0 (kept_by list (book_parts s)) t k (kept_by (drop b list) (drop b (book_parts s)))
  pub count : k + length (kept_by (drop b list) (drop b (book_parts s))) ≡ length (kept_by list (book_parts s))

pub keeping_none : {out s list : List ℕ} {n : ℕ} → Keeping out s list n 0 0 out
keeping_none = record { upto = omega arith; fewer = omega arith; going = going-none; count = omega arith }

payload-small : {out s list : List ℕ} → Listed out s list → (b : ℕ) → b < length s / 512 → get_or list b 0 ≡ 0 → length (payload_of (block_at b s)) ≤ 500
payload-small {out} {s} {list} a b l e =
    let there : b < length list = omega (arith, ap length a.holds, length-numbers s) in
    let e1 : get_or (numbers_of s) b 1 ≡ 0 = ap (λ z. get_or z b 1) (sym a.holds) ∙ default list b there ∙ e in
    (kept-fits s b l e1).most
  where
    default : (xs : List ℕ) (i : ℕ) → i < length xs → get_or xs i 1 ≡ get_or xs i 0
    default [] i h = absurd (omega arith)
    default (y ∷ xs) zero h = refl
    default (y ∷ xs) (suc i) h = default xs i (omega arith)

pub keep-asks : {out s list t : List ℕ} {n k b v : ℕ} → Listed out s list → Keeping out s list n k b t → b < n → n ≡ length s / 512 → v ≡ get_or list b 0 → KeepAsks t k s b v
keep-asks {out} {s} {list} {t} {n} {k} {b} {v} a g l en ev =
    let size = whole_says s a.is in
    record {
      there = omega arith;
      small = λ z. payload-small a b (omega arith) (sym ev ∙ z);
      few = size.1;
      fewer = g.fewer;
      room = omega (arith, g.fewer, size.0, a.long, g.going.long);
    }

keep-step : {out s list : List ℕ} → Listed out s list → (b : ℕ) → b < length s / 512
    → kept_by (drop b list) (drop b (book_parts s)) ≡ kept_one s b (get_or list b 0) ++ kept_by (drop (b + 1) list) (drop (b + 1) (book_parts s))
unfolding kept_by
keep-step {out} {s} {list} a b l =
    let there : b < length list = omega (arith, ap length a.holds, length-numbers s) in
    let xs : drop b list ≡ get_or list b 0 ∷ drop (b + 1) list = drop-cons list b 0 there ∙ ap (λ i. get_or list b 0 ∷ drop i list) (sym (add-one b)) in
    ap₂ kept_by xs (at_block s b l) ∙ one (part_of (block_at b s)) (kept_by (drop (b + 1) list) (drop (b + 1) (book_parts s))) (eqb (get_or list b 0) 0)
  where
    one : (p : Part) (ps : List Part) (g : Bool) → pick g (p ∷ ps) ps ≡ pick g (p ∷ []) [] ++ ps
    one p ps true = refl
    one p ps false = refl

small_one : (s : List ℕ) (b v : ℕ) → (v ≡ 0 → length (payload_of (block_at b s)) ≤ 500) → Small (kept_one s b v)
small_one s b v h = elim (ℕ_discrete v 0) [ yes z ↦ rw (eq-eqb v 0 z) (small-more (h z) small-none) | no z ↦ rw (ne_eqb v 0 z) small-none ]

length-one : (s : List ℕ) (b v : ℕ) → length (kept_one s b v) ≤ 1
length-one s b v = by (eqb v 0)
  where
    by : (g : Bool) → length (pick g (part_of (block_at b s) ∷ []) []) ≤ 1
    by true = omega arith
    by false = omega arith

pub keeping-next : {out s list t t' : List ℕ} {n k b v r : ℕ} → Listed out s list → Keeping out s list n k b t → b < n → n ≡ length s / 512 → v ≡ get_or list b 0
    → Keeps t k s b v r t' → Keeping out s list n r (b + 1) t'
keeping-next {out} {s} {list} {t} {t'} {n} {k} {b} {v} {r} a g l en ev w =
    let asks = keep-asks a g l en ev in
    let rest = kept_by (drop (b + 1) list) (drop (b + 1) (book_parts s)) in
    let step : kept_by (drop b list) (drop b (book_parts s)) ≡ kept_one s b v ++ rest = keep-step a b (omega arith) ∙ ap (λ x. kept_one s b x ++ rest) (sym ev) in
    let sum = ap length step ∙ length-append (kept_one s b v) rest in
    record {
      upto = omega arith;
      fewer = omega (arith, g.fewer, w.next, length-one s b v);
      going = going_more (subst (λ ps. Going out 0 (kept_by list (book_parts s)) t k ps) step g.going) (small_one s b v asks.small) w.pasted w.next;
      count = omega (arith, g.count, w.next);
    }

nothing : (xs : List ℕ) → kept_by xs [] ≡ []
unfolding kept_by
nothing [] = refl
nothing (x ∷ xs) = refl

pub keeping-end : {out s list t : List ℕ} {n k b : ℕ} → Listed out s list → Keeping out s list n k b t → n ≤ b → n ≡ length s / 512 → KeptAll out s k t
unfolding salvaged
keeping-end {out} {s} {list} {t} {n} {k} {b} a g done en =
    let none : kept_by (drop b list) (drop b (book_parts s)) ≡ [] = ap (kept_by (drop b list)) (at-end s b (omega arith)) ∙ nothing (drop b list) in
    let all : kept_by list (book_parts s) ≡ kept_parts s = ap (λ xs. kept_by xs (book_parts s)) a.holds ∙ sym (kept_by_lem s) in
    let size = whole_says s a.is in
    record {
      count = omega (arith, g.count, ap length none, ap length all);
      pasted = subst (λ ps. Pasted out 0 (written 1 ps) t) all
          (going_end (subst (λ ps. Going out 0 (kept_by list (book_parts s)) t k ps) none g.going) (omega (arith, g.fewer, g.upto, a.long, size.0)));
    }
