-- The tables of P22 as elements of the key: equation i has o·o·l rows of l elements there, and the key is whole when every equation is written and the spare half is zero.
-- Rests on packing's Written and on scheme's key_element.
use Rattle.std.specs.Prelude.{◌≡◌, refl, List, ℕ, ◌+◌, ◌*◌, ◌/◌, ◌%◌, ◌<◌, ◌≤◌, length, get_or}
use Rattle.std.proofs.Common.{sym, ap, subst, ◌∙◌, zero-add, div-add-mod', div-lt_iff_lt-mul, mod-lt, arith}
use Rattle.std.proofs.Math.Arith.{digits_div, digits_mod}
use Rattle.ground.specs.Fill.{tab, length-tab, get_or-tab}
use Rattle.packing.specs.Packing.{element, packed_bytes, Bytes}
use Rattle.packing.proofs.Laws.{packed-ext}
use Rattle.packing.specs.Written.{Put, Written, written_none, written_then, written-cong}
use Rattle.rows.specs.Tile.{tile}
use Rattle.sets.specs.declared.Set.{Set}
use Rattle.sets.specs.Sets.{key_count, key_bytes}
use Rattle.scheme.specs.Streams.{p22_number, T12}
use Rattle.scheme.specs.Maps.{key_p22, key_element, key_of}
use Rattle.scheme.specs.Entries.{by-entry}
use Rattle.scheme.specs.Key.{tab-in-field, key_element-at, key_element-lt}
use Rattle.tables.specs.Table.{Holds}

-- the elements of one equation, in rows of l
abbrev pub row_count : (o l : ℕ) → ℕ
row_count o l = o * o * l

-- element e of an equation, from its table: entry (r, c) of block (j, b) where e = ((j·o + b)·l + r)·l + c
unfoldable pub table_element : (o l : ℕ) (k : List ℕ) (e : ℕ) → ℕ
table_element o l k e = tile l (o * l) k (e / l / l / o) (e / l / l % o) (e / l % l) (e % l)

-- ---- a loop that writes one row after the other

-- where row q of an equation stands in its table
abbrev pub row_place : (o l q : ℕ) → ℕ
row_place o l q = (q / l / o * l + q % l) * (o * l) + q / l % o * l

table-row : (o l : ℕ) (k : List ℕ) (q c : ℕ) → c < l → get_or k (row_place o l q + c) 0 ≡ table_element o l k (q * l + c)
unfolding table_element tile
table-row o l k q c h =
    let place : row_place o l q + c ≡ (q / l / o * l + q % l) * (o * l) + (q / l % o * l + c) = omega arith in
    rw (digits_div q h, digits_mod q h) (ap (λ x. get_or k x 0) place)

pub record Putting (o l : ℕ) (s : List ℕ) (i : ℕ) (k : List ℕ) (q : ℕ) (t : List ℕ) : Type 0 where
  pub upto : q ≤ row_count o l
  pub so_far : Written s (i * row_count o l * l) (q * l) (table_element o l k) t

pub putting-none : {o l : ℕ} {s : List ℕ} {i : ℕ} {k : List ℕ} → Putting o l s i k 0 s
putting-none {o} {l} {s} {i} {k} =
    let none : 0 ≡ 0 * l = omega arith in
    record { upto = omega arith; so_far = subst (λ n. Written s (i * row_count o l * l) n (table_element o l k) s) none written_none }

pub putting-next : {o l : ℕ} {s t u : List ℕ} {i q from place : ℕ} {k : List ℕ} → Putting o l s i k q t → q < row_count o l
    → from ≡ (i * row_count o l + q) * l → place ≡ row_place o l q → Written t from l (λ c. get_or k (place + c) 0) u → Putting o l s i k (q + 1) u
putting-next {o} {l} {s} {t} {u} {i} {q} {from} {place} {k} p h from_is place_is w =
    let here : from ≡ i * row_count o l * l + q * l = omega arith in
    let more : q * l + l ≡ (q + 1) * l = omega arith in
    let row : Written t from l (λ c. table_element o l k (q * l + c)) u =
    written-cong (λ c hc. ap (λ x. get_or k (x + c) 0) place_is ∙ table-row o l k q c hc) w in
    let placed : Written t (i * row_count o l * l + q * l) l (λ c. table_element o l k (q * l + c)) u =
    subst (λ x. Written t x l (λ c. table_element o l k (q * l + c)) u) here row in
    record { upto = omega arith; so_far = subst (λ n. Written s (i * row_count o l * l) n (table_element o l k) u) more (written_then p.so_far placed) }

pub putting-end : {o l : ℕ} {s t : List ℕ} {i q : ℕ} {k : List ℕ} → Putting o l s i k q t → row_count o l ≤ q
    → Written s (i * row_count o l * l) (row_count o l * l) (table_element o l k) t
putting-end {o} {l} {s} {t} {i} {q} {k} p h =
    let all : q ≡ row_count o l = omega (arith, p.upto) in
    subst (λ n. Written s (i * row_count o l * l) (n * l) (table_element o l k) t) all p.so_far

-- ---- they are the key's elements

table-entry : (set : Set) (k : List ℕ) (b r c : ℕ) → r < set.l → c < set.l
    → table_element set.o set.l k (b * (set.l * set.l) + (r * set.l + c)) ≡ tile set.l (set.o * set.l) k (b / set.o) (b % set.o) r c
unfolding table_element
table-entry set k b r c hr hc =
    let place : b * (set.l * set.l) + (r * set.l + c) ≡ (b * set.l + r) * set.l + c = omega arith in
    rw (place, digits_div (b * set.l + r) hc, digits_mod (b * set.l + r) hc, digits_div b hr, digits_mod b hr)

-- the number of an element of equation i in the key
key-number : (set : Set) (i b x : ℕ) → p22_number set i (b / set.o) (b % set.o) * (set.l * set.l) + x ≡ i * row_count set.o set.l * set.l + (b * (set.l * set.l) + x)
key-number set i b x =
    let digits : b / set.o * set.o + b % set.o ≡ b = div-add-mod' b set.o in
    let block : (i * set.o + b / set.o) * set.o + b % set.o ≡ i * set.o * set.o + b = omega arith in
    ap (λ n. n * (set.l * set.l) + x) block ∙ omega arith

module _ (set : Set) (public private : List ℕ) where
  -- element e of the table k is the key's, behind those of the first i equations
  abbrev pub KeyElementOf : (i : ℕ) (k : List ℕ) (e : ℕ) → Type 0
  KeyElementOf i k e = table_element set.o set.l k e ≡ key_element set public private (i * row_count set.o set.l * set.l + e)

  -- the elements of equation i
  pub table-key : (i : ℕ) {k : List ℕ} → i < set.o → Holds set.l (set.o * set.l) set.o set.o k (key_p22 set public private i)
      → (e : ℕ) → e < row_count set.o set.l * set.l → KeyElementOf i k e
  table-key i {k} hi h e he = by-entry set.l (set.o * set.o) (KeyElementOf i k) entry e (omega arith)
    where
      entry : (b r c : ℕ) → b < set.o * set.o → r < set.l → c < set.l → KeyElementOf i k (b * (set.l * set.l) + (r * set.l + c))
      entry b r c hb hr hc =
          let some : 0 < set.o = omega arith in
          let row : b / set.o < set.o = (div-lt_iff_lt-mul some).1 hb in
          let column : b % set.o < set.o = mod-lt b some in
          table-entry set k b r c hr hc
          ∙ (h.same (b / set.o) (b % set.o) row column).at r c hr hc
          ∙ sym (key_element-at set public private hi row column hr hc)
          ∙ ap (key_element set public private) (key-number set i b (r * set.l + c))

-- what writing every equation promises: where the table t holds T12, the key's elements are those of page 01
pub record WritesKey (set : Set) (public t before after : List ℕ) : Type 0 where
  pub elements : (private : List ℕ) → Holds set.l (set.o * set.l) set.v set.o t (T12 set private)
      → Written before 0 (key_count set) (key_element set public private) after

-- a loop that writes one equation after the other
pub record Writing (set : Set) (public t before : List ℕ) (i : ℕ) (after : List ℕ) : Type 0 where
  pub upto : i ≤ set.o
  pub long : length after ≡ length before
  pub so_far : (private : List ℕ) → Holds set.l (set.o * set.l) set.v set.o t (T12 set private)
      → Written before 0 (i * row_count set.o set.l * set.l) (key_element set public private) after

pub writing-none : {set : Set} {public t before : List ℕ} → Writing set public t before 0 before
writing-none {set} {public} {t} {before} =
    let none : 0 ≡ 0 * row_count set.o set.l * set.l = omega arith in
    record { upto = omega arith; long = refl; so_far = λ private h. subst (λ n. Written before 0 n (key_element set public private) before) none written_none }

pub writing-next : {set : Set} {public t before after u k : List ℕ} {i : ℕ} → Writing set public t before i after → i < set.o
    → ((private : List ℕ) → Holds set.l (set.o * set.l) set.v set.o t (T12 set private)
    → Holds set.l (set.o * set.l) set.o set.o k (key_p22 set public private i))
    → Written after (i * row_count set.o set.l * set.l) (row_count set.o set.l * set.l) (table_element set.o set.l k) u → Writing set public t before (i + 1) u
writing-next {set} {public} {t} {before} {after} {u} {k} {i} p hi table w = record {
  upto = omega arith;
  long = w.long ∙ p.long;
  so_far = λ private h.
      let count = row_count set.o set.l * set.l in
      let from = i * row_count set.o set.l * set.l in
      let more : from + count ≡ (i + 1) * row_count set.o set.l * set.l = omega arith in
      let row : Written after from count (λ e. key_element set public private (from + e)) u = written-cong (table-key set public private i hi (table private h)) w in
      let placed : Written after (0 + from) count (λ e. key_element set public private (from + e)) u = rw (zero-add from) row in
      subst (λ n. Written before 0 n (key_element set public private) u) more (written_then (p.so_far private h) placed);
}

pub writing-end : {set : Set} {public t before after : List ℕ} {i : ℕ} → Writing set public t before i after → set.o ≤ i → WritesKey set public t before after
unfolding key_count
writing-end {set} {public} {t} {before} {after} {i} p h = record {
  elements = λ private hT.
      let all : i ≡ set.o = omega (arith, p.upto) in
      let count : i * row_count set.o set.l * set.l ≡ set.o * set.o * set.o * (set.l * set.l) = ap (λ x. x * row_count set.o set.l * set.l) all ∙ omega arith in
      subst (λ n. Written before 0 n (key_element set public private) after) count (p.so_far private hT);
}

-- the spare half, of a count that is odd, is zero, and every element stays
pub record Spare (set : Set) (before after : List ℕ) : Type 0 where
  pub long : length after ≡ length before
  pub kept : (e : ℕ) → e < key_count set → element after e ≡ element before e
  pub spare : key_count set % 2 ≡ 1 → element after (key_count set) ≡ 0

pub spare-put : (set : Set) {before after : List ℕ} {n : ℕ} → n ≡ key_count set → Put before n 0 after → Spare set before after
spare-put set {after = after} e p = record { long = p.long; kept = λ x h. p.others x (omega arith); spare = λ odd. ap (element after) (sym e) ∙ p.here }

pub spare-none : (set : Set) {before : List ℕ} {n : ℕ} → n ≡ key_count set → (n % 2 ≡ 1 → ⊥) → Spare set before before
spare-none set e h = record { long = refl; kept = λ x l. refl; spare = λ odd. absurd (h (ap (λ x. x % 2) e ∙ odd)) }

-- the whole key
pub key-whole : (set : Set) (public private : List ℕ) {t before s after : List ℕ} → WritesKey set public t before s
    → Holds set.l (set.o * set.l) set.v set.o t (T12 set private) → Spare set s after → Bytes after → length after ≡ key_bytes set
    → after ≡ key_of set public private
unfolding key_of key_bytes packed_bytes
key-whole set public private {after = after} w hT z b long =
    let count : length (tab (key_count set) (key_element set public private)) ≡ key_count set = length-tab (key_count set) (key_element set public private) in
    packed-ext after (tab (key_count set) (key_element set public private)) (tab-in-field (key_count set) (key_element set public private) (key_element-lt set public private)) b
    (long ∙ ap (λ n. (n + 1) / 2) (sym count))
    (λ e h. let within : e < key_count set = omega (arith, count) in
    z.kept e within ∙ rw (zero-add e) at ((w.elements private hT).inside e within) ∙ sym (get_or-tab (key_count set) (key_element set public private) e within))
    (λ odd. ap (element after) count ∙ z.spare (ap (λ n. n % 2) (sym count) ∙ odd))
