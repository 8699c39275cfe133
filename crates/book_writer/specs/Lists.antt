-- What the writer is lent: a list of exercises, one of kinds, one of sizes, and the bytes of all fields one after the other.
-- Rests on Fields.
use Rattle.std.specs.Prelude.{◌≡◌, refl, Bool, true, false, List, [], ◌∷◌, ℕ, zero, suc, ◌+◌, ◌-◌, ◌*◌, ◌<◌, ◌≤◌, eqb, leb, ltb, length, get_or, take, drop}
use Rattle.std.proofs.Common.{sym, ap, ◌∙◌, add-zero, zero-add, not-suc-le-zero, add-one, leb-true, ltb-true, arith, length-drop, length-take-le}
use Rattle.ground.specs.Pick.{both, both_left, both_right}
use Rattle.ground.specs.Answers.{Answer, Rule, unless, first, number_of}
use Rattle.ground.specs.declared.Refusal.TheVariants.{OutputLength, BadFields, TooManyBlocks}
use Rattle.ground.specs.Outcome.{Writes, unique-writes, unique-equation}
use Rattle.ground.specs.Paste.{Pasted}
use Rattle.books.specs.Fields.{Field, Rising, rising_none, rising-more, last_part, book_of}

-- n fields from field i on, whose bytes begin at byte `at`
unfoldable pub fields_from : ℕ → ℕ → ℕ → List ℕ → List ℕ → List ℕ → List ℕ → List Field
fields_from zero i at es ks ns d = []
fields_from (suc n) i at es ks ns d =
    record { exercise = get_or es i 0; kind = get_or ks i 0; payload = take (get_or ns i 0) (drop at d) } ∷ fields_from n (i + 1) (at + get_or ns i 0) es ks ns d

abbrev pub fields_in : List ℕ → List ℕ → List ℕ → List ℕ → List Field
fields_in es ks ns d = fields_from (length es) 0 0 es ks ns d

-- the sum of the first n sizes, and of the blocks that they take
unfoldable pub total : ℕ → List ℕ → ℕ
total zero ns = 0
total (suc n) ns = total n ns + get_or ns n 0

unfoldable pub blocks : ℕ → List ℕ → ℕ
blocks zero ns = 0
blocks (suc n) ns = blocks n ns + (last_part (get_or ns n 0) + 1)

-- the lists are of one length, and the bytes are as many as the sizes say
unfoldable pub lists_fit : List ℕ → List ℕ → List ℕ → List ℕ → Bool
lists_fit es ks ns d = both (eqb (length ks) (length es)) (both (eqb (length ns) (length es)) (eqb (total (length ns) ns) (length d)))

-- a field is of kind 1 to 7, not empty, and after the field of rank r
abbrev pub field_fits : ℕ → ℕ → ℕ → ℕ → Bool
field_fits r e k n = both (both (leb 1 k) (leb k 7)) (both (leb 1 n) (ltb r (8 * e + k)))

-- n fields from field i on, after one of rank r
unfoldable pub orderly : ℕ → ℕ → ℕ → List ℕ → List ℕ → List ℕ → Bool
orderly zero i r es ks ns = true
orderly (suc n) i r es ks ns = both (field_fits r (get_or es i 0) (get_or ks i 0) (get_or ns i 0)) (orderly n (i + 1) (8 * get_or es i 0 + get_or ks i 0) es ks ns)

-- 45 an empty field, a kind outside 1 to 7 or a wrong order (or lists that do not fit each other), 46 too many blocks, 20 output length: in this order
unfoldable pub write_rules : List ℕ → List ℕ → List ℕ → List ℕ → List ℕ → List Rule
write_rules es ks ns d out =
    unless BadFields (both (lists_fit es ks ns d) (orderly (length es) 0 0 es ks ns))
    ∷ unless TooManyBlocks (leb (blocks (length ns) ns) 65536)
    ∷ unless OutputLength (eqb (length out) (512 * blocks (length ns) ns)) ∷ []

-- What the writer promises of its answer and of the lent output, before and after.
abbrev pub Written : List ℕ → List ℕ → List ℕ → List ℕ → List ℕ → Answer → List ℕ → Type 0
Written es ks ns d before r after = Writes (first (write_rules es ks ns d before)) (book_of (fields_in es ks ns d)) before r after

pub unique-write : (es ks ns d : List ℕ) {before : List ℕ} {r r' : Answer} {after after' : List ℕ} → Written es ks ns d before r after → Written es ks ns d before r' after'
    → (r ≡ r') × (after ≡ after')
unique-write es ks ns d a b = unique-writes a b

-- a field's parts: the block after them, and the output
pub unique-write-field : {before x : List ℕ} {at m r r' : ℕ} {after after' : List ℕ} → (r ≡ m) × Pasted before at x after → (r' ≡ m) × Pasted before at x after'
    → (r ≡ r') × (after ≡ after')
unique-write-field a b = (unique-equation a.0 b.0, unique-equation a.1.is b.1.is)

-- ---- laws of the sums

pub total-more : (n : ℕ) (ns : List ℕ) → total (n + 1) ns ≡ total n ns + get_or ns n 0
unfolding total
total-more n ns = rw (add-one n)

pub blocks_more : (n : ℕ) (ns : List ℕ) → blocks (n + 1) ns ≡ blocks n ns + (last_part (get_or ns n 0) + 1)
unfolding blocks
blocks_more n ns = rw (add-one n)

total-past : (k i : ℕ) (ns : List ℕ) → total i ns ≤ total (i + k) ns
total-past zero i ns = rw (add-zero i) (omega arith)
total-past (suc k) i ns = let e : i + suc k ≡ i + k + 1 = omega arith in rw e (omega (arith, total-more (i + k) ns, total-past k i ns))

pub total-up : (i n : ℕ) (ns : List ℕ) → i ≤ n → total i ns ≤ total n ns
total-up i n ns l = let e : i + (n - i) ≡ n = omega arith in rw e at (total-past (n - i) i ns)

blocks-past : (k i : ℕ) (ns : List ℕ) → blocks i ns ≤ blocks (i + k) ns
blocks-past zero i ns = rw (add-zero i) (omega arith)
blocks-past (suc k) i ns = let e : i + suc k ≡ i + k + 1 = omega arith in rw e (omega (arith, blocks_more (i + k) ns, blocks-past k i ns))

pub blocks-up : (i n : ℕ) (ns : List ℕ) → i ≤ n → blocks i ns ≤ blocks n ns
blocks-up i n ns l = let e : i + (n - i) ≡ n = omega arith in rw e at (blocks-past (n - i) i ns)

-- ---- steps

pub fields-step : (n i at : ℕ) (es ks ns d : List ℕ) → i < n
    → fields_from (n - i) i at es ks ns d
    ≡ record { exercise = get_or es i 0; kind = get_or ks i 0; payload = take (get_or ns i 0) (drop at d) } ∷ fields_from (n - (i + 1)) (i + 1) (at + get_or ns i 0) es ks ns d
unfolding fields_from
fields-step n i at es ks ns d l = let more : n - i ≡ suc (n - (i + 1)) = omega arith in rw more

pub orderly-step : (n i r : ℕ) (es ks ns : List ℕ) → i < n
    → orderly (n - i) i r es ks ns ≡ both (field_fits r (get_or es i 0) (get_or ks i 0) (get_or ns i 0)) (orderly (n - (i + 1)) (i + 1) (8 * get_or es i 0 + get_or ks i 0) es ks ns)
unfolding orderly
orderly-step n i r es ks ns l = let more : n - i ≡ suc (n - (i + 1)) = omega arith in rw more

-- the first i fields are in order, and r is the rank of the last of them
pub record Ordered (es ks ns : List ℕ) (n i r : ℕ) : Type 0 where
  pub upto : i ≤ n
  pub same : orderly (n - i) i r es ks ns ≡ orderly n 0 0 es ks ns

pub ordered-none : (es ks ns : List ℕ) (n : ℕ) → Ordered es ks ns n 0 0
ordered-none es ks ns n = record { upto = omega arith; same = let e : n - 0 ≡ n = omega arith in rw e }

pub ordered-stop : {es ks ns : List ℕ} {n i r : ℕ} {t : Bool} → Ordered es ks ns n i r → i < n → t ≡ field_fits r (get_or es i 0) (get_or ks i 0) (get_or ns i 0) → t ≡ false
    → false ≡ orderly n 0 0 es ks ns
ordered-stop {es} {ks} {ns} {n} {i} {r} o l e z = sym (orderly-step n i r es ks ns l ∙ rw (sym e ∙ z)) ∙ o.same

pub ordered-next : {es ks ns : List ℕ} {n i r q : ℕ} {t : Bool} → Ordered es ks ns n i r → i < n → t ≡ field_fits r (get_or es i 0) (get_or ks i 0) (get_or ns i 0) → t ≡ true
    → q ≡ 8 * get_or es i 0 + get_or ks i 0 → Ordered es ks ns n (i + 1) q
ordered-next {es} {ks} {ns} {n} {i} {r} o l e z q = record { upto = omega arith; same = rw q (sym (orderly-step n i r es ks ns l ∙ rw (sym e ∙ z)) ∙ o.same) }

pub ordered_end : {es ks ns : List ℕ} {n i r : ℕ} → Ordered es ks ns n i r → n ≤ i → true ≡ orderly n 0 0 es ks ns
unfolding orderly
ordered_end {n = n} {i = i} o l = let e : n - i ≡ 0 = omega arith in rw e at o.same

-- what is orderly has no empty field
orderly-some-from : (n i r : ℕ) (es ks ns : List ℕ) → orderly n i r es ks ns ≡ true → (j : ℕ) → j < n → 1 ≤ get_or ns (i + j) 0
unfolding orderly
orderly-some-from zero i r es ks ns o j l = absurd (not-suc-le-zero l)
orderly-some-from (suc n) i r es ks ns o zero l =
    let e = get_or es i 0 in
    let k = get_or ks i 0 in
    let m = get_or ns i 0 in
    rw (add-zero i)
    (leb-true 1 _
    (both_left (leb 1 m) (ltb r (8 * e + k))
    (both_right (both (leb 1 k) (leb k 7)) (both (leb 1 m) (ltb r (8 * e + k)))
    (both_left (field_fits r e k m) (orderly n (i + 1) (8 * e + k) es ks ns) o))))
orderly-some-from (suc n) i r es ks ns o (suc j) l =
    let at : i + 1 + j ≡ i + suc j = omega arith in
    rw at at
    (orderly-some-from n (i + 1) (8 * get_or es i 0 + get_or ks i 0) es ks ns
    (both_right (field_fits r (get_or es i 0) (get_or ks i 0) (get_or ns i 0)) (orderly n (i + 1) (8 * get_or es i 0 + get_or ks i 0) es ks ns) o) j (omega arith))

pub orderly-some : (n : ℕ) (es ks ns : List ℕ) → orderly n 0 0 es ks ns ≡ true → (i : ℕ) → i < n → 1 ≤ get_or ns i 0
orderly-some n es ks ns o i l = rw (zero-add i) at (orderly-some-from n 0 0 es ks ns o i l)

-- ---- lists that fit, in order: the fields rise, and take as many blocks as counted

-- what a field that fits says
fits-says : (r e k n : ℕ) → field_fits r e k n ≡ true → ((1 ≤ k) × (k ≤ 7)) × ((1 ≤ n) × (r < 8 * e + k))
fits-says r e k n f =
    let kind = both_left (both (leb 1 k) (leb k 7)) (both (leb 1 n) (ltb r (8 * e + k))) f in
    let rest = both_right (both (leb 1 k) (leb k 7)) (both (leb 1 n) (ltb r (8 * e + k))) f in (
      (leb-true 1 k (both_left (leb 1 k) (leb k 7) kind), leb-true k 7 (both_right (leb 1 k) (leb k 7) kind)),
      (leb-true 1 n (both_left (leb 1 n) (ltb r (8 * e + k)) rest), ltb-true r (8 * e + k) (both_right (leb 1 n) (ltb r (8 * e + k)) rest)),
    )

fields-rise : (n i at r : ℕ) (es ks ns d : List ℕ) → orderly n i r es ks ns ≡ true → at ≡ total i ns → total (i + n) ns ≤ length d → Rising r (fields_from n i at es ks ns d)
unfolding orderly fields_from
fields-rise zero i at r es ks ns d o e f = rising_none
fields-rise (suc n) i at r es ks ns d o e f =
    let this = both_left (field_fits r (get_or es i 0) (get_or ks i 0) (get_or ns i 0)) (orderly n (i + 1) (8 * get_or es i 0 + get_or ks i 0) es ks ns) o in
    let rest = both_right (field_fits r (get_or es i 0) (get_or ks i 0) (get_or ns i 0)) (orderly n (i + 1) (8 * get_or es i 0 + get_or ks i 0) es ks ns) o in
    let says = fits-says r (get_or es i 0) (get_or ks i 0) (get_or ns i 0) this in
    let z : i + suc n ≡ i + 1 + n = omega arith in
    let f' : total (i + 1 + n) ns ≤ length d = rw z at f in
    let up = total-up (i + 1) (i + 1 + n) ns (omega arith) in
    let long : length (take (get_or ns i 0) (drop at d)) ≡ get_or ns i 0 = length-take-le _ _ (simp length-drop (omega (arith, total-more i ns))) in
    let some : 1 ≤ length (take (get_or ns i 0) (drop at d)) = rw long says.1.0 in
    rising-more says.0.0 says.0.1 some says.1.1
    (fields-rise n (i + 1) (at + get_or ns i 0) (8 * get_or es i 0 + get_or ks i 0) es ks ns d rest (omega (arith, total-more i ns)) f')

-- the fields of lists that fit and are orderly are not empty and rise
pub rise : (es ks ns d : List ℕ) → total (length es) ns ≡ length d → orderly (length es) 0 0 es ks ns ≡ true → Rising 0 (fields_in es ks ns d)
unfolding total
rise es ks ns d f o = let z : 0 + length es ≡ length es = omega arith in fields-rise (length es) 0 0 0 es ks ns d o refl (rw z (omega arith))

-- the same promise, by the answer's number
pub by_number : {m k : ℕ} {result before : List ℕ} {a b : Answer} {after : List ℕ} → Writes m result before a after → k ≡ number_of a → number_of b ≡ k → Writes m result before b after
by_number w e is = record { answer = is ∙ e ∙ w.answer; refused = w.refused; done = w.done }
