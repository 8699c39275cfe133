-- The laws of packed streams: what an element is, by parity; that a stream's elements fix it; and that packing and unpacking undo each other.
-- Rests on Packing and on ground's tables.
use Rattle.std.specs.Prelude.{◌≡◌, refl, true, false, List, [], ◌∷◌, ℕ, zero, suc, ◌+◌, ◌*◌, ◌/◌, ◌%◌, ◌<◌, ◌≤◌, leb, length, get_or, take, drop}
use Rattle.std.proofs.Common.{sym, ap, ◌∙◌, add-one, arith, ext_get_or, drop-cons, get_or-take, le-leb, leb-true}
use Rattle.std.specs.List.{list_all}
use Rattle.std.proofs.Math.Decide.{dec_lt, ℕ_discrete}
use Rattle.std.proofs.Math.ListN.{get_or-eq_default}
use Rattle.std.proofs.lemmas.Bool.{lt-leb}
use Rattle.ground.specs.Pick.{both, both_left, both_right, both_true}
use Rattle.ground.specs.Fill.{tab, length-tab, get_or-tab, tab-ext}
use Rattle.packing.specs.Packing.{half, element, packed_bytes, byte_of, packed, unpacked, in_field, Bytes}

-- ---- an element, by the parity of its number

by-parity : {A : Type 0} (e : ℕ) → (e % 2 ≡ 0 → A) → (e % 2 ≡ 1 → A) → A
by-parity e even odd = elim (ℕ_discrete (e % 2) 0) [ yes p ↦ even p | no p ↦ odd (omega arith) ]

pub half-even : (b e : ℕ) → e % 2 ≡ 0 → half b e ≡ b % 16
unfolding half
half-even b e p = rw p

pub half-odd : (b e : ℕ) → e % 2 ≡ 1 → half b e ≡ b / 16 % 16
unfolding half
half-odd b e p = rw p

half_lt : (b e : ℕ) → half b e < 16
half_lt b e = by-parity e (λ p. omega (arith, half-even b e p)) (λ p. omega (arith, half-odd b e p))

pub element-lt : (s : List ℕ) (e : ℕ) → element s e < 16
unfolding element
element-lt s e = half_lt (get_or s (e / 2) 0) e

pub element-even : (s : List ℕ) (e : ℕ) → e % 2 ≡ 0 → element s e ≡ get_or s (e / 2) 0 % 16
unfolding element
element-even s e p = half-even _ e p

pub element-odd : (s : List ℕ) (e : ℕ) → e % 2 ≡ 1 → element s e ≡ get_or s (e / 2) 0 / 16 % 16
unfolding element
element-odd s e p = half-odd _ e p

-- elements 2 * j and 2 * j + 1 stand in byte j
pub element-low : (s : List ℕ) (j : ℕ) → element s (2 * j) ≡ get_or s j 0 % 16
element-low s j = element-even s (2 * j) (omega arith) ∙ ap (λ i. get_or s i 0 % 16) (omega arith)

pub element-high : (s : List ℕ) (j : ℕ) → element s (2 * j + 1) ≡ get_or s j 0 / 16 % 16
element-high s j = element-odd s (2 * j + 1) (omega arith) ∙ ap (λ i. get_or s i 0 / 16 % 16) (omega arith)

-- the elements of a stream's first n bytes
pub element-take : (n : ℕ) (s : List ℕ) (e : ℕ) → e / 2 < n → element (take n s) e ≡ element s e
unfolding element
element-take n s e l = ap (λ b. half b e) (get_or-take n s (e / 2) 0 l)

-- ---- a stream's elements fix its bytes

pub byte-elements : (s : List ℕ) → Bytes s → (j : ℕ) → get_or s j 0 ≡ element s (2 * j) + 16 * element s (2 * j + 1)
byte-elements s b j = omega (arith, b.below j, element-low s j, element-high s j)

pub element-ext : (s t : List ℕ) → Bytes s → Bytes t → length s ≡ length t → ((e : ℕ) → e < 2 * length s → element s e ≡ element t e) → s ≡ t
element-ext s t bs bt long h =
    ext_get_or 0 s t long
    (λ j l.
    omega (arith, byte-elements s bs j, byte-elements t bt j, h (2 * j) (omega arith), h (2 * j + 1) (omega arith)))

-- ---- elements that are all in the field

pub in-field-lt : (es : List ℕ) → in_field es ≡ true → (k : ℕ) → get_or es k 0 < 16
unfolding in_field
in-field-lt [] t k = omega arith
in-field-lt (x ∷ es) t zero = omega (arith, leb-true x 15 (both_left _ (in_field es) t))
in-field-lt (x ∷ es) t (suc k) = in-field-lt es (both_right (leb x 15) (in_field es) t) k

lt-in-field : (es : List ℕ) → ((k : ℕ) → k < length es → get_or es k 0 < 16) → in_field es ≡ true
unfolding in_field
lt-in-field [] h = refl
lt-in-field (x ∷ es) h = both_true (le-leb x 15 (omega (arith, h 0 (omega arith)))) (lt-in-field es (λ k l. h (suc k) (omega arith)))

-- a list made of elements by a rule
pub in-field-tab : (n : ℕ) (f : ℕ → ℕ) → ((k : ℕ) → k < n → f k < 16) → in_field (tab n f) ≡ true
in-field-tab n f small =
    lt-in-field (tab n f) (λ k h. let l : k < n = omega (arith, length-tab n f) in rw (get_or-tab n f k l) (small k l))

-- the test of the elements, in std's words
pub in-field-all : (es : List ℕ) → list_all (λ x. leb x 15) es ≡ in_field es
unfolding in_field
in-field-all [] = refl
in-field-all (x ∷ es) = rw (in-field-all es) (elim (leb x 15) [ true ↦ refl | false ↦ refl ])

-- a test from place k on goes by what stands there, and on from the next place
in-field-step : (es : List ℕ) (k : ℕ) → k < length es → in_field (drop k es) ≡ both (leb (get_or es k 0) 15) (in_field (drop (k + 1) es))
unfolding in_field
in-field-step es k l = ap in_field (drop-cons es k 0 l) ∙ ap (λ i. both (leb (get_or es k 0) 15) (in_field (drop i es))) (sym (add-one k))

pub in-field-next : (es : List ℕ) (k : ℕ) → k < length es → get_or es k 0 ≤ 15 → in_field (drop k es) ≡ in_field (drop (k + 1) es)
in-field-next es k l h = in-field-step es k l ∙ ap (λ t. both t (in_field (drop (k + 1) es))) (le-leb _ _ h)

pub in-field-stop : (es : List ℕ) (k : ℕ) → k < length es → 15 < get_or es k 0 → in_field (drop k es) ≡ false
in-field-stop es k l h = in-field-step es k l ∙ ap (λ t. both t (in_field (drop (k + 1) es))) (lt-leb _ _ h)

unpacked-in-field : (k : ℕ) (s : List ℕ) → in_field (unpacked k s) ≡ true
unfolding unpacked
unpacked-in-field k s = in-field-tab k (element s) (λ e l. element-lt s e)

-- ---- what packing and unpacking leave

pub length-packed : (es : List ℕ) → length (packed es) ≡ packed_bytes (length es)
unfolding packed
length-packed es = length-tab _ _

length-unpacked : (k : ℕ) (s : List ℕ) → length (unpacked k s) ≡ k
unfolding unpacked
length-unpacked k s = length-tab _ _

get_or-unpacked : (k : ℕ) (s : List ℕ) (e : ℕ) → e < k → get_or (unpacked k s) e 0 ≡ element s e
unfolding unpacked
get_or-unpacked k s e l = get_or-tab k (element s) e l

-- byte j of the packed elements, past the last one too
pub get_or-packed : (es : List ℕ) (j : ℕ) → get_or (packed es) j 0 ≡ byte_of es j
unfolding packed byte_of packed_bytes
get_or-packed es j =
    elim (dec_lt j (packed_bytes (length es))) [
      | yes l ↦ get_or-tab _ (byte_of es) j l
      | no l ↦
          omega (
            arith,
            get_or-eq_default (packed es) 0 {n = j} (omega (arith, length-packed es)),
            get_or-eq_default es 0 {n = 2 * j} (omega arith),
            get_or-eq_default es 0 {n = 2 * j + 1} (omega arith),
          )
    ]

bytes_packed : (es : List ℕ) → in_field es ≡ true → Bytes (packed es)
unfolding byte_of
bytes_packed es t = record { below = λ j. omega (arith, get_or-packed es j, in-field-lt es t (2 * j), in-field-lt es t (2 * j + 1)) }

-- the packed stream holds the elements, and zero after them: the spare half too
pub element-packed : (es : List ℕ) → in_field es ≡ true → (e : ℕ) → element (packed es) e ≡ get_or es e 0
unfolding byte_of
element-packed es t e = by-parity e even odd
  where
    small : (get_or es (2 * (e / 2)) 0 < 16) × (get_or es (2 * (e / 2) + 1) 0 < 16)
    small = (in-field-lt es t _, in-field-lt es t _)

    even : e % 2 ≡ 0 → element (packed es) e ≡ get_or es e 0
    even p =
        let at : e ≡ 2 * (e / 2) = omega arith in
        ap (element (packed es)) at ∙ omega (arith, element-low (packed es) (e / 2), get_or-packed es (e / 2), small) ∙ ap (λ k. get_or es k 0) (sym at)

    odd : e % 2 ≡ 1 → element (packed es) e ≡ get_or es e 0
    odd p =
        let at : e ≡ 2 * (e / 2) + 1 = omega arith in
        ap (element (packed es)) at ∙ omega (arith, element-high (packed es) (e / 2), get_or-packed es (e / 2), small) ∙ ap (λ k. get_or es k 0) (sym at)

-- a list of bytes that holds the elements, and zero in the spare half, is the packed list
pub packed-ext : (t es : List ℕ) → in_field es ≡ true → Bytes t → length t ≡ packed_bytes (length es) → ((k : ℕ) → k < length es → element t k ≡ get_or es k 0)
    → (length es % 2 ≡ 1 → element t (length es) ≡ 0) → t ≡ packed es
unfolding packed_bytes
packed-ext t es i b long h spare =
    element-ext t (packed es) b (bytes_packed es i) (long ∙ sym (length-packed es))
    (λ e l.
    elim (dec_lt e (length es)) [
      | yes m ↦ h e m ∙ sym (element-packed es i e)
      | no m ↦
          let at : e ≡ length es = omega arith in
          ap (element t) at ∙ spare (omega arith) ∙ sym (element-packed es i e ∙ get_or-eq_default es 0 (omega arith))
    ])

-- ---- the round trips, for every count

pub unpack-pack : (es : List ℕ) → in_field es ≡ true → unpacked (length es) (packed es) ≡ es
unfolding unpacked
unpack-pack es t = sym (tab-ext es (length es) (element (packed es)) refl (λ k l. sym (element-packed es t k)))

pub pack-unpack : (k : ℕ) (s : List ℕ) → Bytes s → length s ≡ packed_bytes k → (k % 2 ≡ 1 → element s k ≡ 0) → packed (unpacked k s) ≡ s
pack-unpack k s b long spare =
    sym
    (packed-ext s (unpacked k s) (unpacked-in-field k s) b (long ∙ ap packed_bytes (sym count))
    (λ e l. sym (get_or-unpacked k s e (omega (arith, count))))
    (λ odd. ap (element s) count ∙ spare (omega (arith, count))))
  where
    count : length (unpacked k s) ≡ k
    count = length-unpacked k s

same_byte : (s t : List ℕ) (e : ℕ) → get_or s (e / 2) 0 ≡ get_or t (e / 2) 0 → element s e ≡ element t e
unfolding element
same_byte s t e h = ap (λ b. half b e) h

-- readers do not look at a spare half: the first k elements are the same where all bytes before the last agree, and the last one's low half
pub spare-unread : (s t : List ℕ) (k : ℕ) → ((j : ℕ) → j < k / 2 → get_or s j 0 ≡ get_or t j 0) → get_or s (k / 2) 0 % 16 ≡ get_or t (k / 2) 0 % 16
    → (e : ℕ) → e < k → element s e ≡ element t e
spare-unread s t k whole low e h =
    elim (dec_lt (e / 2) (k / 2)) [
      | yes b ↦ same_byte s t e (whole (e / 2) b)
      | no b ↦
          let last : e / 2 ≡ k / 2 = omega arith in
          let even : e % 2 ≡ 0 = omega arith in
          element-even s e even ∙ rw last low ∙ sym (element-even t e even)
    ]
