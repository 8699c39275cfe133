-- The block of a part: it has the right check and form, and what is read off it is the part; and a block of right check and form is the block of the part read off it.
-- Rests on Block and Altered.
use Rattle.std.specs.Prelude.{◌≡◌, ℕ, zero, suc, ◌+◌, ◌-◌, ◌*◌, ◌/◌, ◌%◌, ◌^◌, ◌<◌, ◌≤◌, true, List, [], ◌∷◌, ◌++◌, length, take, drop, replicate, ◌==◌, nat_eq, nat_le, slice_index, slice_index_or}
use Rattle.std.proofs.Math.Path.{refl, sym, ap}
use Rattle.std.proofs.Common.{ap₂, ◌∙◌, length-drop, take-append-drop, drop_of_length-le, ext_get_or, take_at, get_or-append-add, get_or-take, get_or-drop, length-take-le, drop-cons, drop-drop}
use mathlib.Core.List.{append_assoc}
use native.Mathlib.Omega.{arith}
use Rattle.std.proofs.Math.ListN.{length-append, get_or-append}
use Rattle.std.proofs.lemmas.List.{length-replicate, get_or-replicate}
use borrow.Author.Tests.{eqb-true, eq-eqb, leb-true, le-leb}
use Rattle.ground.specs.Pick.{both, both_left, both_right, both_true}
use Rattle.ground.specs.Tests.{every_true, every-at}
use Rattle.blocks.specs.Block.{pair, word, sum_words, check_of, head_of, size_of, payload_of, Part, part_of, padded, kind_fits, size_fits, formed, checked, four, opening, body, block_of}
use Rattle.blocks.specs.Altered.{Bytes}

-- what a block can hold: kind 1 to 7 and 1 to 500 bytes of payload
pub record Fits (p : Part) : Type 0 where
  pub low : 1 ≤ p.head.kind
  pub high : p.head.kind ≤ 7
  pub some : 1 ≤ length p.payload
  pub most : length p.payload ≤ 500

-- ---- sums of words

pub sum-ext : (n : ℕ) (s t : List ℕ) → ((j : ℕ) → j < n → word s j ≡ word t j) → sum_words n s ≡ sum_words n t
unfolding sum_words
sum-ext zero s t e = refl
sum-ext (suc n) s t e = ap₂ ◌+◌ (sum-ext n s t (λ j h. e j (omega arith))) (e n (omega arith))

word-append : (s t : List ℕ) (j : ℕ) → 4 * j + 3 < length s → word (s ++ t) j ≡ word s j
unfolding word
word-append s t j l =
    rw (get_or-append s t 0 (4 * j) (omega arith), get_or-append s t 0 (4 * j + 1) (omega arith), get_or-append s t 0 (4 * j + 2) (omega arith), get_or-append s t 0 (4 * j + 3) l)

pub past : (s t : List ℕ) (m n : ℕ) → length s ≡ m → slice_index (s ++ t) (m + n) ≡ slice_index t n
past s t m n e = rw (sym e) (get_or-append-add s t n 0)

word-four : (s : List ℕ) (c : ℕ) → length s ≡ 508 → c < 2 ^ 32 → word (s ++ four c) 127 ≡ c
unfolding word
word-four s c e l = rw (past s (four c) 508 0 e, past s (four c) 508 1 e, past s (four c) 508 2 e, past s (four c) 508 3 e) (omega arith)

-- ---- the block of a part

module _ (p : Part) (f : Fits p) where
  length-body : length (body p) ≡ 508
  unfolding body
  length-body = simp (length-append, length-replicate) (omega (arith, f.most))

  pub length-block : (place : ℕ) → length (block_of place p) ≡ 512
  unfolding block_of
  length-block place = simp length-append (omega (arith, length-body))

  check-block : (place : ℕ) → check_of place (block_of place p) ≡ check_of place (body p)
  unfolding check_of block_of
  check-block place =
      ap (λ n. (place + n) % 2 ^ 32)
      (sum-ext 127 _ _ (λ j h. word-append (body p) (four ((place + sum_words 127 (body p)) % 2 ^ 32)) j (omega (arith, length-body))))

  check-lt : (place : ℕ) (s : List ℕ) → check_of place s < 2 ^ 32
  unfolding check_of
  check-lt place s = omega arith

  block_last : (place : ℕ) → word (block_of place p) 127 ≡ check_of place (body p)
  unfolding block_of
  block_last place = word-four (body p) (check_of place (body p)) length-body (check-lt place (body p))

  pub block-checked : (place : ℕ) → checked place (block_of place p) ≡ true
  unfolding checked
  block-checked place = eq-eqb _ _ (block_last place ∙ sym (check-block place))

  pub block-head : (place : ℕ) → head_of (block_of place p) ≡ p.head
  unfolding head_of pair block_of body
  block-head place =
      let e : p.head.exercise % 256 + 256 * (p.head.exercise / 256) ≡ p.head.exercise = omega arith in
      let n : p.head.part % 256 + 256 * (p.head.part / 256) ≡ p.head.part = omega arith in
      rw (e, n)

  pub block_size : (place : ℕ) → size_of (block_of place p) ≡ length p.payload
  unfolding size_of pair block_of body
  block_size place = omega arith

  block-middle : (place : ℕ) → take (length p.payload) (drop 8 (block_of place p)) ≡ p.payload
  unfolding block_of body
  block-middle place = rw append_assoc (take_at p.payload _ (length p.payload) refl)

  pub block-payload : (place : ℕ) → payload_of (block_of place p) ≡ p.payload
  unfolding payload_of
  block-payload place = ap (λ n. take n (drop 8 (block_of place p))) (block_size place) ∙ block-middle place

  block-shape : (place : ℕ) → block_of place p ≡ (opening p ++ p.payload) ++ (replicate (500 - length p.payload) 0 ++ four (check_of place (body p)))
  unfolding block_of body
  block-shape place = simp append_assoc

  block-padding : (place k : ℕ) → k < 500 - length p.payload → slice_index (block_of place p) (8 + length p.payload + k) ≡ 0
  block-padding place k h =
      ap (λ s. slice_index s (8 + length p.payload + k)) (block-shape place)
      ∙ past (opening p ++ p.payload) _ (8 + length p.payload) k (simp length-append (omega arith))
      ∙ zeros
    where
      zeros : slice_index_or (replicate (500 - length p.payload) 0 ++ four (check_of place (body p))) k 0 ≡ 0
      zeros = get_or-append (replicate (500 - length p.payload) 0) _ 0 k (simp length-replicate h) ∙ get_or-replicate _ k 0 0 h

  block-kind : (place : ℕ) → slice_index (block_of place p) 2 ≡ p.head.kind
  unfolding block_of body
  block-kind place = refl

  block-zero : (place : ℕ) → slice_index (block_of place p) 3 ≡ 0
  unfolding block_of body
  block-zero place = refl

  pub block-formed : (place : ℕ) → formed (block_of place p) ≡ true
  unfolding formed padded
  block-formed place =
      both_true (both_true (le-leb 1 (slice_index (block_of place p) 2) (omega (arith, block-kind place, f.low))) (le-leb (slice_index (block_of place p) 2) 7 (omega (arith, block-kind place, f.high))))
      (both_true (eq-eqb _ _ (block-zero place))
      (both_true (both_true (le-leb 1 (size_of (block_of place p)) (omega (arith, block_size place, f.some))) (le-leb (size_of (block_of place p)) 500 (omega (arith, block_size place, f.most))))
      (every_true (500 - size_of (block_of place p)) (λ k. nat_eq (slice_index (block_of place p) (8 + size_of (block_of place p) + k)) 0)
      (λ k h. eq-eqb _ _ (ap (λ n. slice_index (block_of place p) (8 + n + k)) (block_size place) ∙ block-padding place k (omega (arith, block_size place)))))))

-- ---- a block of right check and form

-- what the form says
pub record Formed (s : List ℕ) : Type 0 where
  pub low : 1 ≤ slice_index s 2
  pub high : slice_index_or s 2 0 ≤ 7
  pub zero-byte : slice_index_or s 3 0 ≡ 0
  pub some : 1 ≤ size_of s
  pub most : size_of s ≤ 500
  pub padding : (k : ℕ) → k < 500 - size_of s → slice_index s (8 + size_of s + k) ≡ 0

pub formed-says : (s : List ℕ) → formed s ≡ true → Formed s
unfolding formed padded
formed-says s f =
    let rest = both_right (kind_fits s) (both (slice_index s 3 == 0) (both (size_fits s) (padded s))) f in
    let rest2 = both_right (slice_index s 3 == 0) (both (size_fits s) (padded s)) rest in
    let kind = both_left (kind_fits s) (both (slice_index s 3 == 0) (both (size_fits s) (padded s))) f in
    let size = both_left (size_fits s) (padded s) rest2 in
    record {
      low = leb-true 1 _ (both_left (nat_le 1 (slice_index s 2)) (nat_le (slice_index s 2) 7) kind);
      high = leb-true _ 7 (both_right (nat_le 1 (slice_index s 2)) (nat_le (slice_index s 2) 7) kind);
      zero-byte = eqb-true _ _ (both_left (slice_index s 3 == 0) (both (size_fits s) (padded s)) rest);
      some = leb-true 1 _ (both_left (nat_le 1 (size_of s)) (nat_le (size_of s) 500) size);
      most = leb-true _ 500 (both_right (nat_le 1 (size_of s)) (nat_le (size_of s) 500) size);
      padding = λ j h.
          eqb-true _ _ (every-at (500 - size_of s) (λ k. nat_eq (slice_index s (8 + size_of s + k)) 0) (both_right (size_fits s) (padded s) rest2) j h);
    }

-- a part read off a formed block fits
length-payload : (s : List ℕ) → length s ≡ 512 → Formed s → length (payload_of s) ≡ size_of s
unfolding payload_of
length-payload s l f = length-take-le (size_of s) (drop 8 s) (simp length-drop (omega (arith, f.most)))

pub part-fits : (s : List ℕ) → length s ≡ 512 → Formed s → Fits (part_of s)
unfolding head_of
part-fits s l f =
    record {
      low = f.low;
      high = f.high;
      some = omega (arith, length-payload s l f, f.some);
      most = omega (arith, length-payload s l f, f.most);
    }

first-eight : (s : List ℕ) → 8 ≤ length s
    → s ≡ slice_index s 0 ∷ slice_index s 1 ∷ slice_index s 2 ∷ slice_index s 3 ∷ slice_index s 4 ∷ slice_index s 5 ∷ slice_index s 6 ∷ slice_index s 7 ∷ drop 8 s
first-eight s l =
    drop-cons s 0 0 (omega arith)
    ∙ ap (λ t. slice_index s 0 ∷ t) (drop-cons s 1 0 (omega arith)
    ∙ ap (λ t. slice_index s 1 ∷ t) (drop-cons s 2 0 (omega arith)
    ∙ ap (λ t. slice_index s 2 ∷ t) (drop-cons s 3 0 (omega arith)
    ∙ ap (λ t. slice_index s 3 ∷ t) (drop-cons s 4 0 (omega arith)
    ∙ ap (λ t. slice_index s 4 ∷ t) (drop-cons s 5 0 (omega arith)
    ∙ ap (λ t. slice_index s 5 ∷ t) (drop-cons s 6 0 (omega arith)
    ∙ ap (λ t. slice_index s 6 ∷ t) (drop-cons s 7 0 (omega arith))))))))

last-four : (s : List ℕ) → length s ≡ 512 → drop 508 s ≡ slice_index s 508 ∷ slice_index s 509 ∷ slice_index s 510 ∷ slice_index s 511 ∷ []
last-four s l =
    drop-cons s 508 0 (omega arith)
    ∙ ap (λ t. slice_index s 508 ∷ t) (drop-cons s 509 0 (omega arith)
    ∙ ap (λ t. slice_index s 509 ∷ t) (drop-cons s 510 0 (omega arith)
    ∙ ap (λ t. slice_index s 510 ∷ t) (drop-cons s 511 0 (omega arith)
    ∙ ap (λ t. slice_index s 511 ∷ t) (drop_of_length-le s {i = 512} (omega arith)))))

module _ (place : ℕ) (s : List ℕ) (b : Bytes s) (l : length s ≡ 512) (f : Formed s) where
  -- the padding is zeros
  zeros-there : take (500 - size_of s) (drop (8 + size_of s) s) ≡ replicate (500 - size_of s) 0
  zeros-there =
      let long : length (take (500 - size_of s) (drop (8 + size_of s) s)) ≡ 500 - size_of s = length-take-le _ _ (simp length-drop (omega (arith, f.most))) in
      ext_get_or 0 _ _ (long ∙ sym (length-replicate _ _))
      (λ k h.
      let inside : k < 500 - size_of s = omega (arith, long) in
      get_or-take _ _ k 0 inside ∙ get_or-drop (8 + size_of s) s k 0 ∙ f.padding k inside ∙ sym (get_or-replicate _ k 0 0 inside))

  tail-there : drop (8 + size_of s) s ≡ replicate (500 - size_of s) 0 ++ drop 508 s
  tail-there =
      let at : 8 + size_of s + (500 - size_of s) ≡ 508 = omega (arith, f.most) in
      sym (take-append-drop (500 - size_of s) (drop (8 + size_of s) s))
      ∙ ap₂ ◌++◌ zeros-there (drop-drop (500 - size_of s) (8 + size_of s) s ∙ ap (λ n. drop n s) at)

  after-opening : drop 8 s ≡ payload_of s ++ (replicate (500 - size_of s) 0 ++ drop 508 s)
  unfolding payload_of
  after-opening =
      sym (take-append-drop (size_of s) (drop 8 s)) ∙ ap (λ t. take (size_of s) (drop 8 s) ++ t) (drop-drop (size_of s) 8 s ∙ tail-there)

  opening-there : (t : List ℕ) → slice_index s 0 ∷ slice_index s 1 ∷ slice_index s 2 ∷ slice_index s 3 ∷ slice_index s 4 ∷ slice_index s 5 ∷ slice_index s 6 ∷ slice_index s 7 ∷ t ≡ opening (part_of s) ++ t
  unfolding head_of size_of pair
  opening-there t =
      let long : length (payload_of s) ≡ slice_index s 6 + 256 * slice_index_or s 7 0 = length-payload s l f in
      let e0 : (slice_index s 0 + 256 * slice_index s 1) % 256 ≡ slice_index_or s 0 0 = omega (arith, b.below 0) in
      let e1 : (slice_index s 0 + 256 * slice_index s 1) / 256 ≡ slice_index_or s 1 0 = omega (arith, b.below 0) in
      let e3 : slice_index_or s 3 0 ≡ 0 = f.zero-byte in
      let e4 : (slice_index s 4 + 256 * slice_index s 5) % 256 ≡ slice_index_or s 4 0 = omega (arith, b.below 4) in
      let e5 : (slice_index s 4 + 256 * slice_index s 5) / 256 ≡ slice_index_or s 5 0 = omega (arith, b.below 4) in
      let e6 : length (payload_of s) % 256 ≡ slice_index_or s 6 0 = omega (arith, b.below 6) in
      let e7 : length (payload_of s) / 256 ≡ slice_index_or s 7 0 = omega (arith, b.below 6) in
      rw (e0, e1, e3, e4, e5, e6, e7)

  whole : s ≡ body (part_of s) ++ drop 508 s
  unfolding body
  whole =
      first-eight s (omega arith)
      ∙ opening-there (drop 8 s)
      ∙ ap (λ t. opening (part_of s) ++ t)
      (after-opening
      ∙ ap (λ n. payload_of s ++ (replicate (500 - n) 0 ++ drop 508 s)) (sym (length-payload s l f))
      ∙ sym (append_assoc (payload_of s) (replicate (500 - length (payload_of s)) 0) (drop 508 s)))
      ∙ sym (append_assoc (opening (part_of s)) (payload_of s ++ replicate (500 - length (payload_of s)) 0) (drop 508 s))

  check-there : checked place s ≡ true → check_of place (body (part_of s)) ≡ word s 127
  unfolding checked check_of
  check-there c =
      ap (λ n. (place + n) % 2 ^ 32)
      (sum-ext 127 (body (part_of s)) s
      (λ j h. sym (ap (λ t. word t j) whole ∙ word-append (body (part_of s)) (drop 508 s) j (omega (arith, length-body (part_of s) (part-fits s l f))))))
      ∙ sym (eqb-true _ _ c)

  four-there : four (word s 127) ≡ drop 508 s
  unfolding word
  four-there =
      let w : word s 127 ≡ slice_index s 508 + 256 * slice_index s 509 + 65536 * slice_index s 510 + 16777216 * slice_index_or s 511 0 = refl in
      let w1 : word s 127 / 256 ≡ slice_index s 509 + 256 * slice_index s 510 + 65536 * slice_index_or s 511 0 = omega (arith, b.below 508) in
      let w2 : word s 127 / 65536 ≡ slice_index s 510 + 256 * slice_index_or s 511 0 = omega (arith, b.below 508, b.below 509) in
      let e0 : word s 127 % 256 ≡ slice_index_or s 508 0 = omega (arith, b.below 508) in
      let e1 : word s 127 / 256 % 256 ≡ slice_index_or s 509 0 = rw w1 (omega (arith, b.below 509)) in
      let e2 : word s 127 / 65536 % 256 ≡ slice_index_or s 510 0 = rw w2 (omega (arith, b.below 510)) in
      let e3 : word s 127 / 16777216 ≡ slice_index_or s 511 0 = omega (arith, b.below 508, b.below 509, b.below 510) in
      rw (last-four s l, e0, e1, e2, e3)

  pub block-of-part : checked place s ≡ true → block_of place (part_of s) ≡ s
  unfolding block_of
  block-of-part c = ap (λ n. body (part_of s) ++ four n) (check-there c) ∙ ap (λ t. body (part_of s) ++ t) four-there ∙ sym whole
