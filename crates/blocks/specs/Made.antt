-- A block as the code makes it: its opening, its payload with the padding, then its check.
-- Rests on Codec and on ground's Segment.
use Rattle.std.specs.Prelude.{◌≡◌, ℕ, zero, suc, ◌+◌, ◌-◌, ◌*◌, ◌%◌, ◌^◌, ◌<◌, ◌≤◌, List, [], ◌∷◌, ◌++◌, length, replicate, slice_index, slice_index_or, min}
use Rattle.std.proofs.Math.Path.{refl, sym, ap}
use Rattle.std.proofs.Common.{subst, ◌∙◌, zero-add}
use Rattle.std.proofs.Math.Decide.{dec_lt}
use native.Mathlib.Omega.{arith}
use Rattle.std.proofs.Math.ListN.{length-append, get_or-append}
use Rattle.std.proofs.lemmas.List.{length-replicate}
use Rattle.std.proofs.Math.Seq.{ext_get_or}
use Rattle.std.proofs.Common.{rules}
use Rattle.std.proofs.lemmas.List.{places, get_or-replicate, get_or_past}
use borrow.Rule.Slice.PartMut.{put_mid}
use Rattle.ground.specs.Segment.{Segment}
use Rattle.blocks.specs.declared.Head.{Head}
use Rattle.blocks.specs.Block.{word, check_of, Part, two, four, opening, body, block_of}
use Rattle.blocks.specs.Codec.{sum-ext, past}

abbrev pub part_with : Head → List ℕ → Part
part_with h d = record { head = h; payload = d }

-- the first eight bytes of a part of so many bytes
abbrev pub opening_of : Head → ℕ → List ℕ
opening_of h n = two h.exercise ++ ((h.kind ∷ 0 ∷ []) ++ (two h.part ++ two n))

pub segment-at : {s t : List ℕ} {base m n : ℕ} {f : ℕ → ℕ} → Segment s base m f t → m ≡ n → Segment s base n f t
segment-at {s} {t} {base} {f = f} g e = subst (λ k. Segment s base k f t) e g

-- the first bytes of x are put, and zeros go to the place of those that it lacks
pub put-zeros : {s t z : List ℕ} (x : List ℕ) (at n m : ℕ) → at + n ≤ length s → m ≡ min n (length x) → Segment s at m (λ k. slice_index x k) t → z ≡ replicate (n - m) 0
    → Segment s at n (λ k. slice_index x k) (put_mid (at + m) (at + n - (at + m)) t z)
put-zeros {s} {t} {z} x at n m fits least g ez =
    let lt = g.long in
    let lz : length z ≡ n - m = rw ez (length-replicate (n - m) 0) in
    record {
      long = (let same : length (put_mid (at + m) (at + n - (at + m)) t z) ≡ length t = search (rules, places) in same) ∙ g.long;
      inside = λ k h.
          elim (dec_lt k m) [
            | yes l ↦
                let read : slice_index (put_mid (at + m) (at + n - (at + m)) t z) (at + k) ≡ slice_index t (at + k) = search (rules, places) in
                read ∙ g.inside k l
            | no l ↦
                let read : slice_index (put_mid (at + m) (at + n - (at + m)) t z) (at + k) ≡ slice_index z (k - m) = search (rules, places) in
                read ∙ rw ez (get_or-replicate (n - m) (k - m) 0 0 (omega arith)) ∙ sym (get_or_past x k 0 (omega arith))
          ];
      low = λ k h. (let read : slice_index (put_mid (at + m) (at + n - (at + m)) t z) k ≡ slice_index t k = search (rules, places) in read) ∙ g.low k h;
      high = λ k h. (let read : slice_index (put_mid (at + m) (at + n - (at + m)) t z) k ≡ slice_index t k = search (rules, places) in read) ∙ g.high k (omega arith);
    }

-- padding a list with zeros changes nothing that `get_or` sees
zeros-zero : (n k : ℕ) → slice_index_or {A = ℕ} (replicate n 0) k 0 ≡ 0
zeros-zero zero k = refl
zeros-zero (suc n) zero = refl
zeros-zero (suc n) (suc k) = zeros-zero n k

padded-same : (d : List ℕ) (n k : ℕ) → slice_index (d ++ replicate n 0) k ≡ slice_index d k
padded-same [] n k = zeros-zero n k
padded-same (x ∷ d) n zero = refl
padded-same (x ∷ d) n (suc k) = padded-same d n k

word-cong : (s t : List ℕ) (n j : ℕ) → ((i : ℕ) → i < 4 * n → slice_index s i ≡ slice_index t i) → j < n → word s j ≡ word t j
unfolding word
word-cong s t n j e l = rw (e (4 * j) (omega arith), e (4 * j + 1) (omega arith), e (4 * j + 2) (omega arith), e (4 * j + 3) (omega arith))

module _ (p : Part) (small : length p.payload ≤ 500) where
  length-body : length (body p) ≡ 508
  unfolding body
  length-body = simp (length-append, length-replicate) (omega arith)

  body-opening : (i : ℕ) → i < 8 → slice_index (body p) i ≡ slice_index (opening p) i
  unfolding body
  body-opening i l = get_or-append (opening p) (p.payload ++ replicate (500 - length p.payload) 0) 0 i l

  body-payload : (k : ℕ) → slice_index (body p) (8 + k) ≡ slice_index p.payload k
  unfolding body
  body-payload k = past (opening p) (p.payload ++ replicate (500 - length p.payload) 0) 8 k refl ∙ padded-same p.payload (500 - length p.payload) k

  module _ {s t u v : List ℕ} (long : length s ≡ 512) (place c : ℕ) (a : Segment s 0 8 (λ k. slice_index (opening p) k) t) (b : Segment t 8 500 (λ k. slice_index p.payload k) u)
      (check : c ≡ check_of place u) (d : Segment u 508 4 (λ k. slice_index (four c) k) v) where
    made-body : (i : ℕ) → i < 508 → slice_index u i ≡ slice_index (body p) i
    made-body i l =
        elim (dec_lt i 8) [
          | yes h ↦ b.low i h ∙ ap (λ j. slice_index t j) (sym (zero-add i)) ∙ a.inside i h ∙ sym (body-opening i h)
          | no h ↦
              let e : 8 + (i - 8) ≡ i = omega arith in
              ap (λ j. slice_index u j) (sym e) ∙ b.inside (i - 8) (omega arith) ∙ sym (body-payload (i - 8)) ∙ ap (λ j. slice_index (body p) j) e
        ]

    made-check : c ≡ check_of place (body p)
    unfolding check_of
    made-check = check ∙ ap (λ n. (place + n) % 2 ^ 32) (sum-ext 127 u (body p) (λ j h. word-cong u (body p) 127 j made-body h))

    pub made : v ≡ block_of place p
    unfolding block_of
    made =
        let whole : length (body p ++ four (check_of place (body p))) ≡ 512 = length-append (body p) _ ∙ omega (arith, length-body) in
        ext_get_or 0 v (body p ++ four (check_of place (body p))) (d.long ∙ b.long ∙ a.long ∙ long ∙ sym whole)
        (λ i l.
        elim (dec_lt i 508) [
          | yes h ↦ d.low i h ∙ made-body i h ∙ sym (get_or-append (body p) (four (check_of place (body p))) 0 i (omega (arith, length-body)))
          | no h ↦
              let e : 508 + (i - 508) ≡ i = omega arith in
              let small : i - 508 < 4 = omega (arith, d.long, b.long, a.long) in
              ap (λ j. slice_index v j) (sym e)
              ∙ d.inside (i - 508) small
              ∙ ap (λ n. slice_index (four n) (i - 508)) made-check
              ∙ sym (past (body p) (four (check_of place (body p))) 508 (i - 508) length-body)
              ∙ ap (λ j. slice_index (body p ++ four (check_of place (body p))) j) e
        ])

-- the same, by what the code's calls give
pub filled : {s t u v o w : List ℕ} {c : ℕ} (place : ℕ) (h : Head) (d : List ℕ) → length d ≤ 500 → length s ≡ 512 → o ≡ opening_of h (length d) → Segment s 0 8 (λ k. slice_index o k) t
    → Segment t 8 500 (λ k. slice_index d k) u → c ≡ check_of place u → w ≡ four c → Segment u 508 4 (λ k. slice_index w k) v → v ≡ block_of place (part_with h d)
filled {s} {t} {u} {v} {c = c} place h d small long eo a b check ew e =
    made (part_with h d) small long place c (subst (λ l. Segment s 0 8 (λ k. slice_index l k) t) eo a) b check (subst (λ l. Segment u 508 4 (λ k. slice_index l k) v) ew e)

pub length-small : (place : ℕ) (p : Part) → length p.payload ≤ 500 → length (block_of place p) ≡ 512
unfolding block_of
length-small place p l = length-append (body p) _ ∙ omega (arith, length-body p l)
