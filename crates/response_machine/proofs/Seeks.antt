-- The search finds what `sought` of response_format says: the value of the field in its place of the file, its digits sound, or nothing and why.
-- Rests on Machine, Within and Reading.
use Rattle.std.specs.Prelude.{◌≡◌, Bool, true, false, not, eqb, ltb, get_or, take, drop, Option, Some, None, Ok, Err}
use Rattle.std.proofs.Math.Path.{refl, ap}
use Rattle.std.proofs.Common.{sym, ap₂, subst, ◌∙◌, add_assoc, length-append, length-drop, drop-cons, eq-eqb, ne_eqb, eqb-true, List, [], ◌∷◌, ◌++◌, append-nil, append_assoc, ℕ, suc, ◌+◌, ◌-◌, ◌<◌, ◌≤◌}
use Rattle.std.proofs.Math.Decide.{ℕ_discrete}
use native.Mathlib.Omega.{arith}
use Rattle.std.proofs.Math.Numerals.{add-one}
use Rattle.std.proofs.Math.ListN.{length}
use Rattle.std.proofs.Math.Seq.{take-append_seam, drop-append-add}
use Rattle.std.proofs.lemmas.List.{drop-append-le}
use Rattle.ground.specs.Pick.{pick, both, both_left, both_right}
use Rattle.ground.specs.Answers.{code, first}
use Rattle.response_format.specs.Given.{refuses}
use Rattle.ground.specs.declared.Refusal.{Refusal}
use Rattle.ground.specs.First.{first_passes}
use Rattle.ground.specs.declared.Refusal.TheVariants.{BadLine, FieldOutOfOrder, NotADigit, OddDigits}
use Rattle.response_format.specs.Fields.{digit_of, numeral, label, is_number}
use Rattle.response_format.specs.Rules.{begins, separated, all_digits, paired, value_in, field_rules, line_rules, fault, after, refusal, cut}
use Rattle.response_format.specs.Tells.{noted, no_numbers}
use Rattle.response_format.specs.Lent.{Sought, value, none, is_bytes, left, sought, sought_in}
use Rattle.response_format.specs.Format.{Free, free-none, free_more, AllFree, all_none, all_more, join}
use Rattle.response_format.proofs.Labels.{begins-split}
use Rattle.response_format.specs.Cuts.{cut-is}
use Rattle.response_machine.specs.Machine.{state, next, handed, closed, settled, stepped, ended, start, ending, passing, Place, between, nowhere, seeks}
use Rattle.response_machine.specs.Within.{within, means, sound, value_of}
use Rattle.response_machine.proofs.Within.{line-means}
use Rattle.response_machine.proofs.Reading.{means-sound, means-fault, settled-sound, ended-rest}
use Rattle.response_machine.specs.declared.Line.{Line}
use Rattle.response_machine.specs.declared.Line.TheVariants.{Empty, Comment, Label, Other, Broken, NoDigit, Number, Pairs, Half, Stopped}
use Rattle.response_machine.specs.declared.Closed.{Closed}
use Rattle.response_machine.specs.declared.Closed.TheVariants.{Value, Bytes, Fault}
use Rattle.response_machine.specs.Pieces.{drop_all}
use Rattle.response_machine.specs.declared.Reader.{Reader}
use Rattle.response_machine.specs.declared.Stepped.{Stepped}
use Rattle.response_machine.specs.declared.Span.{Span}
use Rattle.response_format.specs.declared.Numbers.{Numbers}
use Rattle.response_format.specs.declared.Event.TheVariants as event
use Rattle.response_machine.specs.Seeks.{Found, Here, found, missing, refused, nothing}

-- ---- within a line nothing ends

handed-ends : (j k : ℕ) (s : Line) (b : ℕ) → ending j (handed k s b) ≡ false
unfolding handed ending
handed-ends j k Empty b = refl
handed-ends j k Comment b = refl
handed-ends j k (Label i) b = refl
handed-ends j k (Other i) b = refl
handed-ends j k Broken b = refl
handed-ends j k NoDigit b = refl
handed-ends j k (Number n) b = refl
handed-ends j k Pairs b = refl
handed-ends j k (Half h) b = by (ltb (digit_of b) 16) _
  where
    by : (t : Bool) (x : ℕ) → ending j (pick t (Some (event.Byte k x)) None) ≡ false
    by true x = refl
    by false x = refl
handed-ends j k (Stopped n) b = refl

handed-passes : (m k : ℕ) (s : Line) (b : ℕ) → passing m (handed k s b) ≡ m
unfolding handed passing
handed-passes m k Empty b = refl
handed-passes m k Comment b = refl
handed-passes m k (Label i) b = refl
handed-passes m k (Other i) b = refl
handed-passes m k Broken b = refl
handed-passes m k NoDigit b = refl
handed-passes m k (Number n) b = refl
handed-passes m k Pairs b = refl
handed-passes m k (Half h) b = by (ltb (digit_of b) 16) _
  where
    by : (t : Bool) (x : ℕ) → passing m (pick t (Some (event.Byte k x)) None) ≡ m
    by true x = refl
    by false x = refl
handed-passes m k (Stopped n) b = refl

neither : (t : Bool) → both t false ≡ false
neither true = refl
neither false = refl

module _ (j : ℕ) (k : ℕ) (e : Numbers) where
  seeks-byte : (n : ℕ) (s : Line) (a i b : ℕ) (g : List ℕ) → (b ≡ 10 → ⊥) → seeks j n (state k e s) a i (b ∷ g) ≡ seeks j n (state k e (next k s b)) a (i + 1) g
  unfolding seeks stepped
  seeks-byte n s a i b g m = rw (ne_eqb b 10 m, handed-ends j k s b, handed-passes n k s b, neither (eqb n 0))

  seeks-line : (n : ℕ) (s : Line) (a i : ℕ) (l g : List ℕ) → Free l → seeks j n (state k e s) a i (l ++ g) ≡ seeks j n (state k e (within k s l)) a (i + length l) g
  unfolding within
  seeks-line n s a i [] g free-none = let same : i ≡ i + 0 = omega arith in ap (λ x. seeks j n (state k e s) a x g) same
  seeks-line n s a i (b ∷ l) g (free_more m h) =
      let more : i + 1 + length l ≡ i + suc (length l) = omega arith in
      seeks-byte n s a i b (l ++ g) m ∙ seeks-line n (next k s b) a (i + 1) l g h ∙ ap (λ x. seeks j n (state k e (within k (next k s b) l)) a x g) more

  -- a line feed, where the line comes to c
  unfoldable at_feed : ℕ → Closed → ℕ → ℕ → List ℕ → Place
  at_feed n c a i g =
      pick (both (eqb n 0) (ending j (settled k e c).event)) (between a i)
      (seeks j (passing n (settled k e c).event) (settled k e c).reader (i + 1) (i + 1) g)

  seeks-feed : (n : ℕ) (s : Line) (a i : ℕ) (g : List ℕ) → seeks j n (state k e s) a i (10 ∷ g) ≡ at_feed n (closed k s) a i g
  unfolding seeks stepped at_feed
  seeks-feed n s a i g = refl

  seeks-ended : (n a : ℕ) (l g : List ℕ) → Free l → seeks j n (state k e Empty) a a (l ++ (10 ∷ g)) ≡ at_feed n (means k l) a (a + length l) g
  seeks-ended n a l g h =
      seeks-line n Empty a a l (10 ∷ g) h ∙ seeks-feed n (within k Empty l) a (a + length l) g ∙ ap (λ c. at_feed n c a (a + length l) g) (line-means k l)

  seeks-stopped : (n : ℕ) (m : Refusal) (a i : ℕ) (g : List ℕ) → seeks j n (state k e (Stopped m)) a i g ≡ Err m
  unfolding seeks stepped settled closed next handed ended ending passing
  seeks-stopped n m a i [] = refl
  seeks-stopped n m a i (b ∷ g) =
      elim (ℕ_discrete b 10) [
        | yes t ↦ rw (eq-eqb b 10 t, neither (eqb n 0)) (seeks-stopped n m (i + 1) (i + 1) g)
        | no t ↦ rw (ne_eqb b 10 t, neither (eqb n 0)) (seeks-stopped n m a (i + 1) g)
      ]

  fault-nowhere : (n : ℕ) (m : Refusal) (a i : ℕ) (g : List ℕ) → at_feed n (Fault m) a i g ≡ Err m
  unfolding at_feed settled ending passing
  fault-nowhere n m a i g = rw (neither (eqb n 0)) (seeks-stopped n m (i + 1) (i + 1) g)

seeks-none : (j n : ℕ) (r : Reader) (a i : ℕ) → seeks j n r a i [] ≡ nowhere (ended r.fields r.line)
unfolding seeks
seeks-none j n r a i = refl

-- ---- a sound line

-- what a field's line ends
value-ends : (j k : ℕ) (e : Numbers) (v : List ℕ) → ending j (settled k e (value_of k v)).event ≡ both (not (is_number k)) (eqb k j)
unfolding value_of settled ending
value-ends j k e v = by (is_number k)
  where
    last : (t : Bool) → eqb k 7 ≡ t → ending j (Some (pick t (event.Entry e) (event.Ended k))) ≡ eqb k j
    last true t = ap (λ x. eqb x j) (sym (eqb-true k 7 t))
    last false t = refl

    by : (t : Bool) → ending j (settled k e (pick t (Value (numeral 0 v)) Bytes)).event ≡ both (not t) (eqb k j)
    by true = refl
    by false = last (eqb k 7) refl

value_passes : (n k : ℕ) (e : Numbers) (v : List ℕ) → passing n (settled k e (value_of k v)).event ≡ pick (both (not (is_number k)) (eqb k 7)) (n - 1) n
unfolding value_of settled passing
value_passes n k e v = by (is_number k)
  where
    last : (t : Bool) → passing n (Some (pick t (event.Entry e) (event.Ended k))) ≡ pick t (n - 1) n
    last true = refl
    last false = refl

    by : (t : Bool) → passing n (settled k e (pick t (Value (numeral 0 v)) Bytes)).event ≡ pick (both (not t) (eqb k 7)) (n - 1) n
    by true = refl
    by false = last (eqb k 7)

sound-ends : (j k : ℕ) (e : Numbers) (l : List ℕ) → ending j (settled k e (sound k l)).event ≡ both (is_bytes k l) (eqb k j)
unfolding sound is_bytes settled ending
sound-ends j k e [] = refl
sound-ends j k e (b ∷ l) = elim (ℕ_discrete b 35) [ yes i ↦ rw (eq-eqb b 35 i) | no n ↦ rw (ne_eqb b 35 n) (value-ends j k e (value_in k (b ∷ l))) ]

sound-passes : (n k : ℕ) (e : Numbers) (l : List ℕ) → passing n (settled k e (sound k l)).event ≡ left n k l
unfolding sound is_bytes left settled passing
sound-passes n k e [] = refl
sound-passes n k e (b ∷ l) = elim (ℕ_discrete b 35) [ yes i ↦ rw (eq-eqb b 35 i) | no m ↦ rw (ne_eqb b 35 m) (value_passes n k e (value_in k (b ∷ l))) ]

sound-goes : (j n k : ℕ) (e : Numbers) (l : List ℕ) (a i : ℕ) (g : List ℕ) → fault k l ≡ 0
    → at_feed j k e n (sound k l) a i g
    ≡ pick (both (eqb n 0) (both (is_bytes k l) (eqb k j))) (between a i) (seeks j (left n k l) (state (after k l) (noted k l e) Empty) (i + 1) (i + 1) g)
unfolding at_feed
sound-goes j n k e l a i g z = rw (sound-ends j k e l, sound-passes n k e l, settled-sound k e l z)

-- ---- what is found

record BytesLine (k : ℕ) (l : List ℕ) : Type 0 where
  split : l ≡ label k ++ value_in k l
  digits : all_digits 16 (value_in k l) ≡ true
  pairs : paired (value_in k l) ≡ true

bytes-rules : (k : ℕ) (l : List ℕ) → is_number k ≡ false → first (field_rules k l) ≡ 0 → BytesLine k l
unfolding field_rules
bytes-rules k l i z =
    let (a, p) = first_passes BadLine (separated l) _ z in
    let (c, q) = first_passes FieldOutOfOrder (both (ltb k 8) (begins (label k) l)) _ p in
    let (d, s) = first_passes NotADigit (all_digits 16 (value_in k l)) _ (rw i at q) in
    let (h, t) = first_passes OddDigits (paired (value_in k l)) _ s in
    record { split = begins-split (label k) l (both_right (ltb k 8) (begins (label k) l) c); digits = d; pairs = h }

not-true : (t : Bool) → not t ≡ true → t ≡ false
not-true true e = sym e
not-true false e = refl

bytes-line : (k : ℕ) (l : List ℕ) → is_bytes k l ≡ true → fault k l ≡ 0 → BytesLine k l
unfolding is_bytes line_rules
bytes-line k [] t z = let w : ◌≡◌ {A = ℕ} 0 1 = cc in absurd (omega arith)
bytes-line k (b ∷ l) t z =
    elim (ℕ_discrete b 35) [
      | yes i ↦ let w : ◌≡◌ {A = ℕ} 0 1 = let y = rw (eq-eqb b 35 i) at t in cc in absurd (omega arith)
      | no n ↦ bytes-rules k (b ∷ l) (not-true (is_number k) (rw (ne_eqb b 35 n) at t)) (rw (ne_eqb b 35 n) at z)
    ]

-- a line's value stands in the file after the label
value-place : (pre l g : List ℕ) (m : ℕ) → m ≤ length l → take (length pre + length l - (length pre + m)) (drop (length pre + m) (pre ++ (l ++ g))) ≡ drop m l
value-place pre l g m h =
    let count : length pre + length l - (length pre + m) ≡ length (drop m l) = omega (arith, length-drop m l) in
    ap₂ (λ x y. take x y) count (drop-append-add pre (l ++ g) m ∙ drop-append-le m l g h) ∙ take-append_seam (drop m l) g

hit-found : (pre l g : List ℕ) (k : ℕ) → BytesLine k l → Found (pre ++ (l ++ g)) k (between (length pre) (length pre + length l)) (value (value_in k l))
hit-found pre l g k w =
    let long : length (label k) + length (value_in k l) ≡ length l = sym (length-append (label k) (value_in k l)) ∙ ap length (sym w.split) in
    let m : length (label k) ≤ length l = omega arith in
    let all : length (pre ++ (l ++ g)) ≡ length pre + (length l + length g) = length-append pre (l ++ g) ∙ ap (λ x. length pre + x) (length-append l g) in
    found (record { from = length pre; to = length pre + length l }) (value_in k l) (omega arith) (omega arith) (sym (value-place pre l g (length (label k)) m)) w.digits w.pairs

-- the next line of the file
next-file : (pre l g : List ℕ) → (pre ++ (l ++ (10 ∷ []))) ++ g ≡ pre ++ (l ++ (10 ∷ g))
next-file pre l g = append_assoc pre (l ++ (10 ∷ [])) g ∙ ap (λ x. pre ++ x) (append_assoc l (10 ∷ []) g)

next_place : (pre l : List ℕ) → length (pre ++ (l ++ (10 ∷ []))) ≡ length pre + length l + 1
next_place pre l = length-append pre (l ++ (10 ∷ [])) ∙ ap (λ x. length pre + x) (length-append l (10 ∷ [])) ∙ sym (add_assoc (length pre) (length l) 1)

both-swap : (p q r : Bool) → both r (both p q) ≡ both p (both q r)
both-swap true true r = both-true-right r
  where
    both-true-right : (r : Bool) → both r true ≡ r
    both-true-right true = refl
    both-true-right false = refl
both-swap true false r = neither r
both-swap false q r = neither r

-- after the line the search goes on, in the same file
rest-found : (pre l g : List ℕ) (j n : ℕ) (r : Reader) (s : Sought)
    → Found ((pre ++ (l ++ (10 ∷ []))) ++ g) j (seeks j n r (length (pre ++ (l ++ (10 ∷ [])))) (length (pre ++ (l ++ (10 ∷ [])))) g) s
    → Found (pre ++ (l ++ (10 ∷ g))) j (seeks j n r (length pre + length l + 1) (length pre + length l + 1) g) s
rest-found pre l g j n r s w =
    subst (λ f. Found f j (seeks j n r (length pre + length l + 1) (length pre + length l + 1) g) s) (next-file pre l g)
    (subst (λ a. Found ((pre ++ (l ++ (10 ∷ []))) ++ g) j (seeks j n r a a g) s) (next_place pre l) w)

-- a sound line: it is the one, or the search goes on
sound-found : (pre l g : List ℕ) (j n k : ℕ) (p q : Place) (s : Sought) → fault k l ≡ 0
    → p ≡ pick (both (eqb n 0) (both (is_bytes k l) (eqb k j))) (between (length pre) (length pre + length l)) q → Found (pre ++ (l ++ g)) j q s
    → Found (pre ++ (l ++ g)) j p (pick (both (is_bytes k l) (both (eqb k j) (eqb n 0))) (value (value_in k l)) s)
sound-found pre l g j n k p q s z is later = by (both (is_bytes k l) (both (eqb k j) (eqb n 0))) refl
  where
    by : (t : Bool) → both (is_bytes k l) (both (eqb k j) (eqb n 0)) ≡ t → Found (pre ++ (l ++ g)) j p (pick t (value (value_in k l)) s)
    by true t =
        let same : k ≡ j = eqb-true k j (both_left (eqb k j) (eqb n 0) (both_right (is_bytes k l) (both (eqb k j) (eqb n 0)) t)) in
        let line = bytes-line k l (both_left (is_bytes k l) (both (eqb k j) (eqb n 0)) t) z in
        let here : p ≡ between (length pre) (length pre + length l) = is ∙ rw (both-swap (is_bytes k l) (eqb k j) (eqb n 0), t) in
        subst (λ x. Found (pre ++ (l ++ g)) j x (value (value_in k l))) (sym here)
        (subst (λ x. Found (pre ++ (l ++ g)) x (between (length pre) (length pre + length l)) (value (value_in k l))) same (hit-found pre l g k line))
    by false t =
        let on : p ≡ q = is ∙ rw (both-swap (is_bytes k l) (eqb k j) (eqb n 0), t) in
        subst (λ x. Found (pre ++ (l ++ g)) j x s) (sym on) later

seek-end : (j n k : ℕ) (e : Numbers) (a : ℕ) (rest : List ℕ) → Free rest → seeks j n (state k e Empty) a a rest ≡ nowhere (ended k (within k Empty rest))
seek-end j n k e a rest h =
    ap (seeks j n (state k e Empty) a a) (sym (append-nil rest))
    ∙ seeks-line j k e n Empty a a rest [] h
    ∙ seeks-none j n (state k e (within k Empty rest)) a (a + length rest)

seek-lines : (pre : List ℕ) (j n k : ℕ) (e : Numbers) (ls : List (List ℕ)) (rest : List ℕ) → AllFree ls → Free rest
    → Found (pre ++ join ls rest) j (seeks j n (state k e Empty) (length pre) (length pre) (join ls rest)) (sought j n k ls rest)
unfolding join sought
seek-lines pre j n k e [] rest all_none h =
    subst (λ p. Found (pre ++ rest) j p (none (refusal k [] rest))) (sym (seek-end j n k e (length pre) rest h))
    (subst (λ m. Found (pre ++ rest) j (nowhere (ended k (within k Empty rest))) (none m)) (ended-rest k rest) (nothing (ended k (within k Empty rest))))
seek-lines pre j n k e (l ∷ ls) rest (all_more g gs) h =
    let ended = seeks-ended j k e n (length pre) l (join ls rest) g in
    elim (ℕ_discrete (fault k l) 0) [
      | yes z ↦
          rw (eq-eqb (fault k l) 0 z)
          (sound-found pre l (10 ∷ join ls rest) j n k _ _ (sought j (left n k l) (after k l) ls rest) z
          (ended
          ∙ ap (λ c. at_feed j k e n c (length pre) (length pre + length l) (join ls rest)) (means-sound k l z)
          ∙ sound-goes j n k e l (length pre) (length pre + length l) (join ls rest) z)
          (rest-found pre l (join ls rest) j (left n k l) (state (after k l) (noted k l e) Empty) (sought j (left n k l) (after k l) ls rest)
          (seek-lines (pre ++ (l ++ (10 ∷ []))) j (left n k l) (after k l) (noted k l e) ls rest gs h)))
      | no m ↦
          let w = refuses (line_rules k l) m in
          rw (ne_eqb (fault k l) 0 m)
          (subst (λ p. Found (pre ++ (l ++ (10 ∷ join ls rest))) j p (none (fault k l)))
          (sym (ended
          ∙ ap (λ c. at_feed j k e n c (length pre) (length pre + length l) (join ls rest)) (means-fault k l w)
          ∙ fault-nowhere j k e n w.refusal (length pre) (length pre + length l) (join ls rest)))
          (subst (λ x. Found (pre ++ (l ++ (10 ∷ join ls rest))) j (Err w.refusal) (none x)) w.number (refused w.refusal)))
    ]

-- the search over a whole file
pub seeks-finds : (f : List ℕ) (n j : ℕ) → Found f j (seeks j n start 0 0 f) (sought_in f n j)
seeks-finds f n j =
    let w = cut-is f in
    subst (λ g. Found g j (seeks j n start 0 0 g) (sought_in f n j)) w.is (seek-lines [] j n 0 no_numbers (cut f).lines (cut f).rest w.free w.last)

-- ---- for the code: the value between two places, or none

found_here : {f : List ℕ} {j : ℕ} {s : Span} {w : Sought} → Found f j (Ok (Some s)) w → Here f j s w
found_here (found s v low high e d p) =
    record { is = ap value e; low = low; high = high; digits = ap (all_digits 16) (sym e) ∙ d; pairs = ap paired (sym e) ∙ p }

found_missing : {f : List ℕ} {j : ℕ} {w : Sought} → Found f j (Ok None) w → w ≡ none 0
found_missing missing = refl

found_refused : {f : List ℕ} {j : ℕ} {r : Refusal} {w : Sought} → Found f j (Err r) w → w ≡ none (code r)
found_refused (refused r) = refl

module _ (f : List ℕ) (n j : ℕ) where
  pub seeks-here : {p : Place} {s : Span} → p ≡ seeks j n start 0 0 f → p ≡ Ok (Some s) → Here f j s (sought_in f n j)
  seeks-here e h = found_here (subst (λ x. Found f j x (sought_in f n j)) (sym e ∙ h) (seeks-finds f n j))

  pub seeks_line : {p : Place} {o : Option Span} {s : Span} → p ≡ seeks j n start 0 0 f → p ≡ Ok o → o ≡ Some s → Here f j s (sought_in f n j)
  seeks_line e h is = seeks-here e (h ∙ ap Ok is)

  pub seeks_fits : {p : Place} {o : Option Span} {s : Span} → p ≡ seeks j n start 0 0 f → p ≡ Ok o → o ≡ Some s
      → (s.from + length (label j) ≤ s.to) × (s.to ≤ length f)
  seeks_fits e h is = let w = seeks_line e h is in (w.low, w.high)

  pub seeks-missing : {p : Place} → p ≡ seeks j n start 0 0 f → p ≡ Ok None → sought_in f n j ≡ none 0
  seeks-missing e h = found_missing (subst (λ x. Found f j x (sought_in f n j)) (sym e ∙ h) (seeks-finds f n j))

  pub seeks-refused : {p : Place} {r : Refusal} → p ≡ seeks j n start 0 0 f → p ≡ Err r → sought_in f n j ≡ none (code r)
  seeks-refused e h = found_refused (subst (λ x. Found f j x (sought_in f n j)) (sym e ∙ h) (seeks-finds f n j))

-- ---- for the code: one byte of the search

module _ (j n : ℕ) (r : Reader) (a i : ℕ) (f : List ℕ) {s : Stepped} (here : i < length f) (is : s ≡ stepped r (get_or f i 0)) where
  pub seeks-stop : both (eqb n 0) (ending j s.event) ≡ true → between a i ≡ seeks j n r a i (drop i f)
  unfolding seeks
  seeks-stop t = rw (drop-cons f i 0 here, ← is, t)

  pub seeks-goes : both (eqb n 0) (ending j s.event) ≡ false
      → seeks j (passing n s.event) s.reader (pick (eqb (get_or f i 0) 10) (i + 1) a) (i + 1) (drop (i + 1) f) ≡ seeks j n r a i (drop i f)
  unfolding seeks
  seeks-goes t = rw (drop-cons f i 0 here, ← is, t, add-one i)

pub seeks-over : (j n : ℕ) (r : Reader) (a i : ℕ) (f : List ℕ) → length f ≤ i → nowhere (ended r.fields r.line) ≡ seeks j n r a i (drop i f)
unfolding seeks
seeks-over j n r a i f h = rw (drop_all i f h)
