-- The writer's loop over the fields, and what its refusals rule out.
-- Rests on Lists and Going.
use Rattle.std.specs.Prelude.{◌≡◌, Ok, refl, true, false, ℕ, zero, suc, ◌+◌, ◌-◌, ◌*◌, ◌/◌, ◌<◌, ◌≤◌, min, eqb, leb, length, get_or, take, drop}
use Rattle.std.proofs.Common.{sym, ap, subst, ◌∙◌, length-append, length-drop, length-take-le}
use mathlib.Core.List.{List, [], ◌∷◌, ◌++◌}
use native.Mathlib.Omega.{arith}
use borrow.Author.Tests.{eqb-true, leb-true, lt-leb, le-leb}
use Rattle.ground.specs.Pick.{pick, both, both_left, both_right}
use Rattle.ground.specs.Answers.{unless, first}
use Rattle.ground.specs.declared.Refusal.TheVariants.{OutputLength, BadFields, TooManyBlocks}
use Rattle.ground.specs.First.{first_passes}
use Rattle.books.specs.Book.{written, read_number, book_parts}
use Rattle.books.specs.Fields.{cut, last_part, parts_of, book_of, fields_of, round_trip, Full, written-full}
use Rattle.books.specs.Cursor.{walk, walk-written}
use Rattle.book_writer.specs.Lists.{fields_from, fields_in, total, blocks, lists_fit, orderly, total-more, total-up, blocks_more, blocks-up, fields-step, orderly-some, write_rules, Written, rise}
use Rattle.ground.specs.Paste.{Pasted, pasted-all}
use Rattle.books.specs.Going.{Going, going-none, going_more, going_end, small_cut, small-parts, length_cut, length-written-small}

-- what the writer's loop may build on
pub record Allowed (out es ks ns d : List ℕ) : Type 0 where
  pub kinds : length ks ≡ length es
  pub sizes : length ns ≡ length es
  pub bytes : total (length es) ns ≡ length d
  pub some : (i : ℕ) → i < length es → 1 ≤ get_or ns i 0
  pub few : blocks (length es) ns ≤ 65536
  pub long : length out ≡ 512 * blocks (length es) ns
  pub orders : orderly (length es) 0 0 es ks ns ≡ true

pub allowed : (out es ks ns d : List ℕ) → lists_fit es ks ns d ≡ true → orderly (length es) 0 0 es ks ns ≡ true → blocks (length ns) ns ≤ 65536
    → length out ≡ 512 * blocks (length ns) ns → Allowed out es ks ns d
unfolding lists_fit
allowed out es ks ns d f o few long =
    let rest = both_right (eqb (length ks) (length es)) (both (eqb (length ns) (length es)) (eqb (total (length ns) ns) (length d))) f in
    let same = eqb-true (length ns) (length es) (both_left (eqb (length ns) (length es)) (eqb (total (length ns) ns) (length d)) rest) in
    let sum = eqb-true (total (length ns) ns) (length d) (both_right (eqb (length ns) (length es)) (eqb (total (length ns) ns) (length d)) rest) in
    record {
      kinds = eqb-true (length ks) (length es) (both_left (eqb (length ks) (length es)) (both (eqb (length ns) (length es)) (eqb (total (length ns) ns) (length d))) f);
      sizes = same;
      bytes = rw same at sum;
      some = orderly-some (length es) es ks ns o;
      few = rw same at few;
      long = rw same at long;
      orders = o;
    }

-- the first i fields are written
pub record WritingAll (s es ks ns d t : List ℕ) (at b i : ℕ) : Type 0 where
  pub upto : i ≤ length es
  pub byte : at ≡ total i ns
  pub block : b ≡ blocks i ns
  pub going : Going s 0 (parts_of (fields_in es ks ns d)) t b (parts_of (fields_from (length es - i) i at es ks ns d))

pub writing-none : (s es ks ns d : List ℕ) → WritingAll s es ks ns d s 0 0 0
unfolding total blocks
writing-none s es ks ns d = record { upto = omega arith; byte = refl; block = refl; going = let e : length es - 0 ≡ length es = omega arith in rw e going-none }

pub record Room (out es ks ns d : List ℕ) (at b i : ℕ) : Type 0 where
  pub byte : at + get_or ns i 0 ≤ length d
  pub some : 1 ≤ get_or ns i 0
  pub block : b + (last_part (get_or ns i 0) + 1) ≤ 65536
  pub fits : 512 * (b + (last_part (get_or ns i 0) + 1)) ≤ length out

pub room : {s es ks ns d t : List ℕ} {at b i : ℕ} → Allowed s es ks ns d → WritingAll s es ks ns d t at b i → i < length es → Room s es ks ns d at b i
room {s} {es} {ks} {ns} {d} {t} {at} {b} {i} a w l =
    let up = total-up (i + 1) (length es) ns (omega arith) in
    let more = total-more i ns in
    let upb = blocks-up (i + 1) (length es) ns (omega arith) in
    let moreb = blocks_more i ns in
    record {
      byte = omega (arith, a.bytes, w.byte);
      some = a.some i l;
      block = omega (arith, a.few, w.block);
      fits = omega (arith, a.long, w.block);
    }

pub writing-next : {s es ks ns d t t' : List ℕ} {at b i c : ℕ} → Allowed s es ks ns d → WritingAll s es ks ns d t at b i → i < length es
    → (x : List ℕ) → x ≡ take (get_or ns i 0) (drop at d)
    → c ≡ b + (last_part (length x) + 1) → Pasted t (512 * b) (written (b + 1) (cut (last_part (length x)) (get_or es i 0) (get_or ks i 0) 0 x)) t'
    → WritingAll s es ks ns d t' (at + get_or ns i 0) c (i + 1)
unfolding parts_of
writing-next {s} {es} {ks} {ns} {d} {t} {t'} {at} {b} {i} {c} a w l x e ec p =
    let r = room a w l in
    let long : length (take (get_or ns i 0) (drop at d)) ≡ get_or ns i 0 = length-take-le _ _ (simp length-drop (omega (arith, r.byte))) in
    let lx : length x ≡ get_or ns i 0 = ap length e ∙ long in
    let y = take (get_or ns i 0) (drop at d) in
    let last : last_part (length y) ≡ last_part (get_or ns i 0) = ap last_part long in
    let p' : Pasted t (512 * b) (written (b + 1) (cut (last_part (length y)) (get_or es i 0) (get_or ks i 0) 0 y)) t'
    = subst (λ z. Pasted t (512 * b) (written (b + 1) (cut (last_part (length z)) (get_or es i 0) (get_or ks i 0) 0 z)) t') e p in
    let g : Going s 0 (parts_of (fields_in es ks ns d)) t b
    (cut (last_part (length y)) (get_or es i 0) (get_or ks i 0) 0 y ++ parts_of (fields_from (length es - (i + 1)) (i + 1) (at + get_or ns i 0) es ks ns d))
    = subst (λ fs. Going s 0 (parts_of (fields_in es ks ns d)) t b (parts_of fs)) (fields-step (length es) i at es ks ns d l) w.going in
    record {
      upto = omega arith;
      byte = omega (arith, w.byte, total-more i ns);
      block = omega (arith, w.block, blocks_more i ns, ap last_part lx);
      going = going_more g (small_cut (last_part (length y)) (get_or es i 0) (get_or ks i 0) 0 y) p' (omega (arith, length_cut (last_part (length y)) (get_or es i 0) (get_or ks i 0) 0 y, ap length e));
    }

count-parts : (n i at : ℕ) (es ks ns d : List ℕ) → at ≡ total i ns → total (i + n) ns ≤ length d → blocks i ns + length (parts_of (fields_from n i at es ks ns d)) ≡ blocks (i + n) ns
unfolding parts_of fields_from
count-parts zero i at es ks ns d e f = let z : i + 0 ≡ i = omega arith in rw z (omega arith)
count-parts (suc n) i at es ks ns d e f =
    let z : i + suc n ≡ i + 1 + n = omega arith in
    let f' : total (i + 1 + n) ns ≤ length d = rw z at f in
    let up = total-up (i + 1) (i + 1 + n) ns (omega arith) in
    let y = take (get_or ns i 0) (drop at d) in
    let long : length y ≡ get_or ns i 0 = length-take-le _ _ (simp length-drop (omega (arith, total-more i ns))) in
    let rest = count-parts n (i + 1) (at + get_or ns i 0) es ks ns d (omega (arith, total-more i ns)) f' in
    rw (z, length-append (cut (last_part (length y)) (get_or es i 0) (get_or ks i 0) 0 y) (parts_of (fields_from n (i + 1) (at + get_or ns i 0) es ks ns d)))
    (omega (arith, length_cut (last_part (length y)) (get_or es i 0) (get_or ks i 0) 0 y, blocks_more i ns, rest, ap last_part long))

pub count-fields : {s es ks ns d : List ℕ} → Allowed s es ks ns d → length (parts_of (fields_in es ks ns d)) ≡ blocks (length es) ns
unfolding total blocks
count-fields {s} {es} {ks} {ns} {d} a =
    let z : 0 + length es ≡ length es = omega arith in
    let all = count-parts (length es) 0 0 es ks ns d refl (rw z (omega (arith, a.bytes))) in
    omega (arith, rw z at all)

pub writing-end : {s es ks ns d t : List ℕ} {at b i : ℕ} → Allowed s es ks ns d → WritingAll s es ks ns d t at b i → length es ≤ i → t ≡ book_of (fields_in es ks ns d)
unfolding book_of parts_of fields_from
writing-end {s} {es} {ks} {ns} {d} {t} {at} {b} {i} a w l =
    let all : i ≡ length es = omega (arith, w.upto) in
    let none : length es - i ≡ 0 = omega arith in
    let g : Going s 0 (parts_of (fields_in es ks ns d)) t b [] = subst (λ n. Going s 0 (parts_of (fields_in es ks ns d)) t b (parts_of (fields_from n i at es ks ns d))) none w.going in
    let done = going_end g (omega (arith, w.block, a.long, ap (λ n. blocks n ns) all)) in
    pasted-all done (length-written-small 1 (small-parts (fields_in es ks ns d)) ∙ omega (arith, count-fields a, a.long))

-- ---- what the code's calls ask

cut-same : (at n : ℕ) (d : List ℕ) → take (at + n - at) (drop at d) ≡ take n (drop at d)
cut-same at n d = let e : at + n - at ≡ n = omega arith in ap (λ m. take m (drop at d)) e

pub room-asks : {s es ks ns d t : List ℕ} {at b i : ℕ} → Allowed s es ks ns d → WritingAll s es ks ns d t at b i → i < length es
    → (1 ≤ length (take (at + get_or ns i 0 - at) (drop at d)))
    × ((b + (last_part (length (take (at + get_or ns i 0 - at) (drop at d))) + 1) ≤ 65536) × (512 * (b + (last_part (length (take (at + get_or ns i 0 - at) (drop at d))) + 1)) ≤ length t))
room-asks {s} {es} {ks} {ns} {d} {t} {at} {b} {i} a w l =
    let r = room a w l in
    let long : length (take (at + get_or ns i 0 - at) (drop at d)) ≡ get_or ns i 0 = ap length (cut-same at (get_or ns i 0) d) ∙ length-take-le _ _ (simp length-drop (omega (arith, r.byte))) in
    rw long (r.some, (r.block, omega (arith, r.fits, w.going.long)))

pub writing-on : {s es ks ns d t t' : List ℕ} {at b i c : ℕ} → Allowed s es ks ns d → WritingAll s es ks ns d t at b i → i < length es
    → (c ≡ b + (last_part (length (take (at + get_or ns i 0 - at) (drop at d))) + 1))
    × Pasted t (512 * b) (written (b + 1) (cut (last_part (length (take (at + get_or ns i 0 - at) (drop at d)))) (get_or es i 0) (get_or ks i 0) 0 (take (at + get_or ns i 0 - at) (drop at d)))) t'
    → WritingAll s es ks ns d t' (at + get_or ns i 0) c (i + 1)
writing-on {ns = ns} {d = d} {at = at} {i = i} a w l p = writing-next a w l (take (at + get_or ns i 0 - at) (drop at d)) (cut-same at (get_or ns i 0) d) p.0 p.1

-- ---- refusals

module _ (es ks ns d out : List ℕ) where
  pub refuse-lists : lists_fit es ks ns d ≡ false → 45 ≡ first (write_rules es ks ns d out)
  unfolding write_rules first
  refuse-lists e = rw e

  pub refuse-order : lists_fit es ks ns d ≡ true → orderly (length es) 0 0 es ks ns ≡ false → 45 ≡ first (write_rules es ks ns d out)
  unfolding write_rules first
  refuse-order e o = rw (e, o)

  pub refuse-blocks : {n : ℕ} → lists_fit es ks ns d ≡ true → orderly (length es) 0 0 es ks ns ≡ true → n ≡ min (blocks (length ns) ns) 65537 → 65536 < n
      → 46 ≡ first (write_rules es ks ns d out)
  unfolding write_rules first
  refuse-blocks e o c l = rw (e, o, lt-leb (blocks (length ns) ns) 65536 (omega arith))

  pub refuse-output : {n r : ℕ} → lists_fit es ks ns d ≡ true → orderly (length es) 0 0 es ks ns ≡ true → n ≡ min (blocks (length ns) ns) 65537 → n ≤ 65536
      → r ≡ pick (eqb (length out) (512 * n)) 0 20 → r ≡ first (write_rules es ks ns d out)
  unfolding write_rules first
  refuse-output {n} {r} e o c l p =
      let same : n ≡ blocks (length ns) ns = omega arith in
      rw (e, o, le-leb (blocks (length ns) ns) 65536 (omega arith)) (rw same at p)

  pub fit-lengths : lists_fit es ks ns d ≡ true → (length ks ≡ length es) × (length ns ≡ length es)
  unfolding lists_fit
  fit-lengths f =
      let rest = both_right (eqb (length ks) (length es)) (both (eqb (length ns) (length es)) (eqb (total (length ns) ns) (length d))) f in (
        eqb-true (length ks) (length es) (both_left (eqb (length ks) (length es)) (both (eqb (length ns) (length es)) (eqb (total (length ns) ns) (length d))) f),
        eqb-true (length ns) (length es) (both_left (eqb (length ns) (length es)) (eqb (total (length ns) ns) (length d)) rest),
      )

  -- no refusal: all that the loop builds on
  pub not-refused : first (write_rules es ks ns d out) ≡ 0 → Allowed out es ks ns d
  unfolding write_rules
  not-refused z =
      let later = unless TooManyBlocks (leb (blocks (length ns) ns) 65536) ∷ unless OutputLength (eqb (length out) (512 * blocks (length ns) ns)) ∷ [] in
      let a = first_passes BadFields (both (lists_fit es ks ns d) (orderly (length es) 0 0 es ks ns)) later z in
      let b = first_passes TooManyBlocks (leb (blocks (length ns) ns) 65536) (unless OutputLength (eqb (length out) (512 * blocks (length ns) ns)) ∷ []) a.1 in
      let c = first_passes OutputLength (eqb (length out) (512 * blocks (length ns) ns)) [] b.1 in
      allowed out es ks ns d (both_left (lists_fit es ks ns d) (orderly (length es) 0 0 es ks ns) a.0) (both_right (lists_fit es ks ns d) (orderly (length es) 0 0 es ks ns) a.0)
      (leb-true _ _ b.0) (eqb-true _ _ c.0)

-- ---- what is written with 0 is read with 0, and the fields read are those that the lists say
pub write-then-read : (es ks ns d : List ℕ) {before after : List ℕ} → Written es ks ns d before (Ok tt) after → (read_number after ≡ 0) × (fields_of after ≡ fields_in es ks ns d)
write-then-read es ks ns d {before} {after} w =
    let none = sym w.answer in
    let a = not-refused es ks ns d before none in
    rw (w.done none) (round_trip (fields_in es ks ns d) (rise es ks ns d a.bytes a.orders) (omega (arith, count-fields a, a.few)))

-- ---- and walking the cursor gives exactly those fields, bytes included; each part is full but a field's last
pub write-then-walk : (es ks ns d : List ℕ) {before after : List ℕ} → Written es ks ns d before (Ok tt) after
    → (walk (length after / 512) after 0 ≡ fields_in es ks ns d) × Full (book_parts after)
write-then-walk es ks ns d {before} {after} w =
    let none = sym w.answer in
    let a = not-refused es ks ns d before none in
    let up = rise es ks ns d a.bytes a.orders in
    rw (w.done none) (walk-written (fields_in es ks ns d) up (omega (arith, count-fields a, a.few)), written-full (fields_in es ks ns d) up)
