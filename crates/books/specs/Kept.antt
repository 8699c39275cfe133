-- The new book of a salvage, block by block: its k-th block is the k-th old block that is listed 0, with its check made anew; and where each block of a sound book has
-- at most one word altered, its payload is the original's. Rests on Salvage.
use Rattle.std.specs.Prelude.{◌≡◌, refl, Bool, true, false, List, [], ◌∷◌, ◌++◌, eqb, length, get_or, take, drop}
use Rattle.std.proofs.Common.{sym, ap, ap₂, ◌∙◌, not-suc-le-zero, add-zero, arith, length-drop, drop-drop, drop_at, take_at, length-take-le}
use Prim.Native.Nat.{ℕ, zero, suc, ◌+◌, ◌*◌, ◌/◌, ◌<◌}
use borrow.Author.Tests.{eqb-true}
use Rattle.ground.specs.Pick.{pick}
use Rattle.blocks.specs.declared.Head.{Head}
use Rattle.blocks.specs.Block.{head_of, payload_of, Part, part_of, block_at, block_of}
use Rattle.blocks.specs.Altered.{Bytes}
use Rattle.blocks.specs.Codec.{Fits, formed-says, part-fits, block-payload}
use Rattle.blocks.specs.Made.{length-small}
use Rattle.blocks.specs.Turn.{start, fault_of}
use Rattle.books.specs.Book.{whole, parts, book_parts, at_block, length-book-parts, written, read_number, Chain, chain-none, chain_more}
use Rattle.books.specs.Going.{Small, small-none, small-more}
use Rattle.books.specs.Salvage.{judged, kept, listed, spoils, kept_parts, numbers_of, salvaged, kept-in-turn, kept-formed, Worn, kept-original}

-- the parts whose number is 0
unfoldable pub kept_by : List ℕ → List Part → List Part
kept_by [] ps = []
kept_by (x ∷ xs) [] = []
kept_by (x ∷ xs) (p ∷ ps) = pick (eqb x 0) (p ∷ kept_by xs ps) (kept_by xs ps)

-- how many of the first b numbers are 0
unfoldable pub zeros : ℕ → List ℕ → ℕ
zeros zero xs = 0
zeros (suc b) [] = 0
zeros (suc b) (x ∷ xs) = pick (eqb x 0) 1 0 + zeros b xs

-- ---- what is kept is what is listed 0

-- the number in the list of a block that is judged
abbrev pub number_in : (ℕ → Bool) → ℕ → Head → ℕ
number_in out number h = pick (eqb number 0) (pick (out h.exercise) 44 0) number

keep_one : (out : Bool) (number : ℕ) (p : Part) (ps : List Part)
    → pick (eqb number 0) (pick out ps (p ∷ ps)) ps ≡ pick (eqb (pick (eqb number 0) (pick out 44 0) number) 0) (p ∷ ps) ps
keep_one out number p ps = by out (eqb number 0) refl
  where
    by : (o g : Bool) → eqb number 0 ≡ g → pick g (pick o ps (p ∷ ps)) ps ≡ pick (eqb (pick g (pick o 44 0) number) 0) (p ∷ ps) ps
    by true true e = refl
    by false true e = refl
    by o false e = rw e

kept-listed : (out : ℕ → Bool) (n place : ℕ) (before : Head) (s : List ℕ) → kept out (judged n place before s) ≡ kept_by (listed out (judged n place before s)) (parts n s)
unfolding kept listed judged kept_by parts
kept-listed out zero place before s = refl
kept-listed out (suc n) place before s =
    let f = fault_of place before (take 512 s) in
    let later = kept-listed out n (place + 1) (pick (eqb f 0) (head_of (take 512 s)) before) (drop 512 s) in
    rw (later, keep_one (out (head_of (take 512 s)).exercise) f (part_of (take 512 s)) (kept_by (listed out (judged n (place + 1) (pick (eqb f 0) (head_of (take 512 s)) before) (drop 512 s))) (parts n (drop 512 s))))

pub kept_by_lem : (s : List ℕ) → kept_parts s ≡ kept_by (numbers_of s) (book_parts s)
unfolding kept_parts numbers_of book_parts
kept_by_lem s = kept-listed (spoils s) (length s / 512) 1 start s

length-listed : (out : ℕ → Bool) (n place : ℕ) (before : Head) (s : List ℕ) → length (listed out (judged n place before s)) ≡ n
unfolding listed judged
length-listed out zero place before s = refl
length-listed out (suc n) place before s = ap suc (length-listed out n _ _ _)

pub length-numbers : (s : List ℕ) → length (numbers_of s) ≡ length s / 512
unfolding numbers_of
length-numbers s = length-listed (spoils s) (length s / 512) 1 start s

-- ---- the k-th part that is kept

-- p is part b of ps, listed 0, and part k of those kept, where k of the numbers before it are 0
pub record Found (xs : List ℕ) (ps : List Part) (k : ℕ) : Type 0 where
  pub old : ℕ
  pub part : Part
  pub inside : old < length ps
  pub listed-0 : get_or xs old 1 ≡ 0
  pub place : zeros old xs ≡ k
  pub was : drop old ps ≡ part ∷ drop (suc old) ps
  pub is : drop k (kept_by xs ps) ≡ part ∷ drop (suc k) (kept_by xs ps)

module _ (x : ℕ) (xs : List ℕ) (p : Part) (ps : List Part) where
  found_here : eqb x 0 ≡ true → Found (x ∷ xs) (p ∷ ps) 0
  unfolding kept_by zeros
  found_here g = record { old = 0; part = p; inside = omega arith; listed-0 = eqb-true x 0 g; place = refl; was = refl; is = rw g }

  found-later : {k : ℕ} → eqb x 0 ≡ true → Found xs ps k → Found (x ∷ xs) (p ∷ ps) (suc k)
  unfolding kept_by zeros
  found-later g f = record {
    old = suc f.old;
    part = f.part;
    inside = omega (arith, f.inside);
    listed-0 = f.listed-0;
    place = rw g (omega (arith, f.place));
    was = f.was;
    is = rw g f.is;
  }

  found-past : {k : ℕ} → eqb x 0 ≡ false → Found xs ps k → Found (x ∷ xs) (p ∷ ps) k
  unfolding kept_by zeros
  found-past g f = record {
    old = suc f.old;
    part = f.part;
    inside = omega (arith, f.inside);
    listed-0 = f.listed-0;
    place = rw g (omega (arith, f.place));
    was = f.was;
    is = rw g f.is;
  }

pub find : (xs : List ℕ) (ps : List Part) (k : ℕ) → k < length (kept_by xs ps) → Found xs ps k
unfolding kept_by
find [] ps k l = absurd (not-suc-le-zero l)
find (x ∷ xs) [] k l = absurd (not-suc-le-zero l)
find (x ∷ xs) (p ∷ ps) k l = by (eqb x 0) refl k l (λ j h. find xs ps j h)
  where
    by : (g : Bool) → eqb x 0 ≡ g → (k : ℕ) → k < length (pick (eqb x 0) (p ∷ kept_by xs ps) (kept_by xs ps)) → ((j : ℕ) → j < length (kept_by xs ps) → Found xs ps j)
        → Found (x ∷ xs) (p ∷ ps) k
    by true g zero h later = found_here x xs p ps g
    by true g (suc k) h later = found-later x xs p ps g (later k (let h' : suc k < suc (length (kept_by xs ps)) = rw g at h in omega arith))
    by false g k h later = found-past x xs p ps g (later k (rw g at h))

-- ---- the k-th block of what is written

pub written-block : (place k : ℕ) {qs : List Part} {p : Part} {rest : List Part} → Small qs → drop k qs ≡ p ∷ rest → block_at k (written place qs) ≡ block_of (place + k) p
unfolding written
written-block place zero {p = p} small-none e = absurd (let z : ◌≡◌ {A = ℕ} 0 1 = cc in omega arith)
written-block place (suc k) {p = p} small-none e = absurd (let z : ◌≡◌ {A = ℕ} 0 1 = cc in omega arith)
written-block place zero {p = p} (small-more {p = q} {ps = qs} l s) e =
    let same : q ≡ p = cc in
    take_at (block_of place q) (written (place + 1) qs) 512 (length-small place q l) ∙ ap₂ block_of (sym (add-zero place)) same
written-block place (suc k) {p = p} (small-more {p = q} {ps = qs} l s) e =
    let at : 512 * suc k ≡ 512 + 512 * k = omega arith in
    let next : place + 1 + k ≡ place + suc k = omega arith in
    ap (λ n. take 512 (drop n (block_of place q ++ written (place + 1) qs))) at
    ∙ ap (take 512) (sym (drop-drop (512 * k) 512 (block_of place q ++ written (place + 1) qs)))
    ∙ ap (λ x. take 512 (drop (512 * k) x)) (drop_at (block_of place q) (written (place + 1) qs) 512 (length-small place q l))
    ∙ written-block (place + 1) k s e
    ∙ ap (λ n. block_of n p) next

-- no kept payload is longer than a block holds
chain-small : {before : Head} {ps : List Part} → Chain before ps → Small ps
chain-small chain-none = small-none
chain-small (chain_more f t c) = small-more f.most (chain-small c)

pub kept_small : (s : List ℕ) → whole s ≡ true → Small (kept_parts s)
kept_small s w = chain-small (kept-in-turn s w)

-- ---- the k-th block of the new book

-- `old` is the k-th old block that is listed 0, and the k-th new block holds what it held, its check made anew
pub record Kth (s : List ℕ) (k : ℕ) : Type 0 where
  pub old : ℕ
  pub inside : old < length s / 512
  pub listed-0 : get_or (numbers_of s) old 1 ≡ 0
  pub place : zeros old (numbers_of s) ≡ k
  pub same : block_at k (salvaged s) ≡ block_of (k + 1) (part_of (block_at old s))

pub kth-kept : (s : List ℕ) → whole s ≡ true → (k : ℕ) → k < length (kept_parts s) → Kth s k
unfolding salvaged
kth-kept s w k l =
    let f = find (numbers_of s) (book_parts s) k (rw (kept_by_lem s) at l) in
    let inside : f.old < length s / 512 = omega (arith, f.inside, length-book-parts s) in
    let part : f.part ≡ part_of (block_at f.old s) = first_of (sym f.was ∙ at_block s f.old inside) in
    let place : 1 + k ≡ k + 1 = omega arith in
    record {
      old = f.old;
      inside = inside;
      listed-0 = f.listed-0;
      place = f.place;
      same = written-block 1 k (kept_small s w) (ap (drop k) (kept_by_lem s) ∙ f.is) ∙ ap₂ block_of place part;
    }
  where
    first_of : {p q : Part} {ps qs : List Part} → p ∷ ps ≡ q ∷ qs → p ≡ q
    first_of e = cc

-- ---- payloads

-- a block that is listed 0 holds what a block can hold
pub kept-fits : (s : List ℕ) (b : ℕ) → b < length s / 512 → get_or (numbers_of s) b 1 ≡ 0 → Fits (part_of (block_at b s))
kept-fits s b l e =
    let long : length (block_at b s) ≡ 512 = length-take-le 512 (drop (512 * b) s) (simp length-drop (omega arith)) in
    part-fits (block_at b s) long (formed-says (block_at b s) (kept-formed s b l e))

-- if each block of a sound book has at most one word altered, the payload of every kept block equals the original's
pub kept_payload : (s t : List ℕ) → Bytes s → Bytes t → read_number s ≡ 0 → Worn (length s / 512) s t → (k : ℕ) → k < length (kept_parts t) → (r : Kth t k)
    → payload_of (block_at k (salvaged t)) ≡ payload_of (block_at r.old s)
kept_payload s t bs bt sound worn k l r =
    let inside : r.old < length s / 512 = omega (arith, r.inside, worn.long) in
    ap payload_of r.same
    ∙ block-payload (part_of (block_at r.old t)) (kept-fits t r.old r.inside r.listed-0) (k + 1)
    ∙ ap payload_of (kept-original s t bs bt sound worn r.old inside r.listed-0)
