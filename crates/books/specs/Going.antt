-- Blocks written one after the other into a lent output: what is still to be written, so that the whole is.
-- Rests on Paste, Made and Book.
use Rattle.std.specs.Prelude.{◌≡◌, refl, List, [], ◌∷◌, ◌++◌, ℕ, zero, suc, ◌+◌, ◌-◌, ◌*◌, ◌<◌, ◌≤◌, min, length, take, drop}
use Rattle.std.proofs.Common.{sym, ap, subst, ◌∙◌, append_assoc, append-nil, add-zero, add-one, arith, length-append, length-take, length-drop, drop-drop, take_all}
use Rattle.std.proofs.Math.Decide.{dec_lt}
use borrow.Rule.Slice.PartMut.{put_mid}
use Rattle.blocks.specs.declared.Head.{Head}
use Rattle.blocks.specs.Block.{Part, block_of}
use Rattle.books.specs.Book.{written}
use Rattle.books.specs.Fields.{Field, cut, part_at, parts_of}
use Rattle.blocks.specs.Made.{length-small, part_with}
use Rattle.ground.specs.Paste.{Pasted, length-pasted, pasted-none, pasted-then, pasted-mid}

-- no payload is longer than a block holds
pub data Small : List Part → Type 0 where
  small-none : Small []
  small-more : {p : Part} {ps : List Part} → length p.payload ≤ 500 → Small ps → Small (p ∷ ps)

pub length-written-small : (place : ℕ) {ps : List Part} → Small ps → length (written place ps) ≡ 512 * length ps
unfolding written
length-written-small place small-none = refl
length-written-small place (small-more {p = p} {ps = ps} l s) = length-append (block_of place p) _ ∙ omega (arith, length-small place p l, length-written-small (place + 1) s)

pub written-append : (place : ℕ) (ps qs : List Part) → written place (ps ++ qs) ≡ written place ps ++ written (place + length ps) qs
unfolding written
written-append place [] qs = rw (add-zero place)
written-append place (p ∷ ps) qs =
    let at : place + 1 + length ps ≡ place + suc (length ps) = omega arith in
    ap (λ l. block_of place p ++ l) (written-append (place + 1) ps qs ∙ ap (λ n. written (place + 1) ps ++ written n qs) at) ∙ sym (append_assoc (block_of place p) (written (place + 1) ps) _)

-- of s the parts ps are to be written from block b on; in t those before `rest` are, and `rest` goes from block b' on
pub record Going (s : List ℕ) (b : ℕ) (ps : List Part) (t : List ℕ) (b' : ℕ) (rest : List Part) : Type 0 where
  pub long : length t ≡ length s
  pub goes : (u : List ℕ) → Pasted t (512 * b') (written (b' + 1) rest) u → Pasted s (512 * b) (written (b + 1) ps) u

pub going-none : {s : List ℕ} {b : ℕ} {ps : List Part} → Going s b ps s b ps
going-none = record { long = refl; goes = λ u p. p }

pub going_more : {s t t' : List ℕ} {b b' n : ℕ} {ps qs rest : List Part} → Going s b ps t b' (qs ++ rest) → Small qs → Pasted t (512 * b') (written (b' + 1) qs) t' → n ≡ b' + length qs
    → Going s b ps t' n rest
going_more {s} {t} {t'} {b} {b'} {n} {ps} {qs} {rest} g small p e = record {
  long = length-pasted p ∙ g.long;
  goes = λ u q.
      let at : 512 * n ≡ 512 * b' + length (written (b' + 1) qs) = omega (arith, length-written-small (b' + 1) small) in
      let place : n + 1 ≡ b' + 1 + length qs = omega arith in
      g.goes u (rw (written-append (b' + 1) qs rest) (pasted-then p at (subst (λ m. Pasted t' (512 * n) (written m rest) u) place q)));
}

pub going-one : {s t t' : List ℕ} {b b' n : ℕ} {ps rest : List Part} {p : Part} → Going s b ps t b' (p ∷ rest) → length p.payload ≤ 500 → Pasted t (512 * b') (block_of (b' + 1) p) t' → n ≡ b' + 1
    → Going s b ps t' n rest
unfolding written
going-one {t = t} {t' = t'} {b' = b'} {p = p} g small q e =
    going_more {qs = p ∷ []} g (small-more small small-none) (subst (λ l. Pasted t (512 * b') l t') (sym (append-nil (block_of (b' + 1) p))) q) e

pub going_end : {s t : List ℕ} {b b' : ℕ} {ps : List Part} → Going s b ps t b' [] → 512 * b' ≤ length s → Pasted s (512 * b) (written (b + 1) ps) t
unfolding written
going_end {s} {t} {b} {b'} g l = g.goes t (pasted-none t (512 * b') (omega (arith, g.long)))

-- ---- the parts of a field, by their count

unfoldable pub cut_n : ℕ → ℕ → ℕ → ℕ → List ℕ → List Part
cut_n zero e k n d = []
cut_n (suc m) e k n d = part_at e k n d ∷ cut_n m e k (n + 1) (drop 500 d)

pub cut-is : (m e k n : ℕ) (d : List ℕ) → cut m e k n d ≡ cut_n (suc m) e k n d
unfolding cut cut_n
cut-is zero e k n d = refl
cut-is (suc m) e k n d = ap (λ l. part_at e k n d ∷ l) (cut-is m e k (n + 1) (drop 500 d))

pub length_cut : (m e k n : ℕ) (d : List ℕ) → length (cut m e k n d) ≡ m + 1
unfolding cut
length_cut zero e k n d = refl
length_cut (suc m) e k n d = ap suc (length_cut m e k (n + 1) (drop 500 d)) ∙ omega arith

length-500 : (d : List ℕ) → length (take 500 d) ≤ 500
length-500 d = omega (arith, length-take 500 d)

pub small_cut : (m e k n : ℕ) (d : List ℕ) → Small (cut m e k n d)
unfolding cut
small_cut zero e k n d = small-more (length-500 d) small-none
small_cut (suc m) e k n d = small-more (length-500 d) (small_cut m e k (n + 1) (drop 500 d))

pub small-append : {ps qs : List Part} → Small ps → Small qs → Small (ps ++ qs)
small-append small-none b = b
small-append (small-more l a) b = small-more l (small-append a b)

pub small-parts : (fs : List Field) → Small (parts_of fs)
unfolding parts_of
small-parts [] = small-none
small-parts (f ∷ fs) = small-append (small_cut _ _ _ _ f.payload) (small-parts fs)

-- part n of the field, and those after it
pub cut_step : (m e k n : ℕ) (d : List ℕ) → n < m → cut_n (m - n) e k n (drop (500 * n) d) ≡ part_at e k n (drop (500 * n) d) ∷ cut_n (m - (n + 1)) e k (n + 1) (drop (500 * (n + 1)) d)
unfolding cut_n
cut_step m e k n d l =
    let more : m - n ≡ suc (m - (n + 1)) = omega arith in
    let at : 500 * n + 500 ≡ 500 * (n + 1) = omega arith in
    rw (more, drop-drop 500 (500 * n) d, at)

-- a part as the code cuts it: up to 500 bytes, or up to the end
part_cut : (n end : ℕ) (d : List ℕ) → end ≡ min (500 * n + 500) (length d) → 500 * n ≤ length d → take (end - 500 * n) (drop (500 * n) d) ≡ take 500 (drop (500 * n) d)
part_cut n end d e l =
    elim (dec_lt (length d) (500 * n + 500)) [
      | yes h ↦
          let at : end ≡ length d = omega arith in
          take_all (end - 500 * n) (drop (500 * n) d) (omega (arith, length-drop (500 * n) d)) ∙ sym (take_all 500 (drop (500 * n) d) (omega (arith, length-drop (500 * n) d)))
      | no h ↦ let at : end - 500 * n ≡ 500 = omega arith in ap (λ m. take m (drop (500 * n) d)) at
    ]

pub part-pasted : {out y : List ℕ} (b : ℕ) (h : Head) (end : ℕ) (d : List ℕ) → end ≡ min (500 * h.part + 500) (length d) → 500 * h.part ≤ length d → 512 * b + 512 ≤ length out
    → y ≡ block_of (b + 1) (part_with h (take (end - 500 * h.part) (drop (500 * h.part) d)))
    → Pasted out (512 * b) (block_of (b + 1) (part_at h.exercise h.kind h.part (drop (500 * h.part) d))) (put_mid (512 * b) (512 * b + 512 - 512 * b) out y)
part-pasted {out} {y} b h end d e l fits made =
    let k : 512 * b + 512 - 512 * b ≡ 512 = omega arith in
    let rest = drop (500 * h.part) d in
    let is = made ∙ ap (λ x. block_of (b + 1) (part_with h x)) (part_cut h.part end d e l) in
    rw k (pasted-mid (512 * b) 512 is (length-small (b + 1) (part_at h.exercise h.kind h.part rest) (length-500 rest)) fits)

-- part n of a field is written, and the next one's turn comes
pub field_next : {s t t' : List ℕ} {b : ℕ} {ps : List Part} (m e k n : ℕ) (d : List ℕ) → Going s b ps t (b + n) (cut_n (m - n) e k n (drop (500 * n) d)) → n < m
    → Pasted t (512 * (b + n)) (block_of (b + n + 1) (part_at e k n (drop (500 * n) d))) t' → Going s b ps t' (b + (n + 1)) (cut_n (m - (n + 1)) e k (n + 1) (drop (500 * (n + 1)) d))
field_next {s} {t} {b = b} {ps = ps} m e k n d g l p =
    going-one (subst (λ r. Going s b ps t (b + n) r) (cut_step m e k n d l) g) (length-500 (drop (500 * n) d)) p (omega arith)

pub field-none : {s : List ℕ} {b : ℕ} (m e k : ℕ) (d : List ℕ) → Going s b (cut_n m e k 0 d) s (b + 0) (cut_n (m - 0) e k 0 d)
field-none {s} {b} m e k d = let z : m - 0 ≡ m = omega arith in rw (z, add-zero b) going-none

pub field_end : {s t : List ℕ} {b : ℕ} (m e k n : ℕ) (d : List ℕ) → Going s b (cut_n (m + 1) e k 0 d) t (b + n) (cut_n (m + 1 - n) e k n (drop (500 * n) d)) → n ≡ m + 1 → 512 * (b + n) ≤ length s
    → Pasted s (512 * b) (written (b + 1) (cut m e k 0 d)) t
unfolding cut_n
field_end {s} {t} {b} m e k n d g z fits =
    let none : m + 1 - n ≡ 0 = omega arith in
    let all : cut_n (m + 1) e k 0 d ≡ cut m e k 0 d = ap (λ c. cut_n c e k 0 d) (add-one m) ∙ sym (cut-is m e k 0 d) in
    subst (λ ps. Pasted s (512 * b) (written (b + 1) ps) t) all (going_end (subst (λ c. Going s b (cut_n (m + 1) e k 0 d) t (b + n) (cut_n c e k n (drop (500 * n) d))) none g) fits)
