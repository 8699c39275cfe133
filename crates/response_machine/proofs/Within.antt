-- A line, byte by byte, comes to what its rules say: the machine's state after the line's bytes, closed by the line feed, is `means`.
-- Rests on Rules, Scan, Labels and Machine.
use Rattle.std.specs.Prelude.{◌≡◌, refl, Bool, true, false, ◌⊎◌, List, [], ◌∷◌, ◌++◌, ℕ, zero, suc, ◌+◌, ◌*◌, ◌<◌, ◌≤◌, T, eqb, ltb, leb, length, get_or, take}
use Rattle.std.proofs.Math.Path.{sym, ap}
use Rattle.std.proofs.Common.{◌∙◌, inl, inr, append-nil, append_assoc, add-one, arith, eqb→eq, ltb→lt, take-suc, take_all, not-suc-le-zero, eq-eqb, ne_eqb, lt-ltb, le-ltb, le-leb}
use Rattle.std.proofs.Math.Decide.{ℕ_discrete, dec_lt, dec_le}
use Rattle.std.proofs.Math.Seq.{drop-append_seam}
use borrow.Author.Tests.{lt-leb}
use Rattle.ground.specs.Pick.{pick, both}
use Rattle.ground.specs.Answers.{Rule, unless}
use Rattle.response_format.specs.Given.{given}
use Rattle.ground.specs.declared.Refusal.{Refusal}
use Rattle.ground.specs.declared.Refusal.TheVariants.{BadLine, OddDigits, NotADigit, FieldOutOfOrder, NumberTooLarge}
use Rattle.ground.specs.Tests.{every, below2, both_first, both_rest}
use Rattle.response_format.specs.Fields.{digit_of, numeral, label, is_number}
use Rattle.response_format.specs.Rules.{begins, separated, all_digits, some, paired, value_in, number_rules, bytes_rules, value_rules, field_rules, whole, line_rules}
use Rattle.response_machine.specs.Machine.{found, separator_at, grown, value_start, labelled, next, closed}
use Rattle.response_machine.specs.Scan.{scan, scan-append, scan-more, separated-scan}
use Rattle.response_format.proofs.Labels.{label-past, label-short, label-long, label-separated, begins-all}
use Rattle.response_machine.specs.declared.Line.TheVariants.{Empty, Comment, Label, Other, Broken, NoDigit, Number, Pairs, Half, Stopped}
use Rattle.response_machine.specs.declared.Closed.TheVariants.{Gap, Value, Bytes, Fault}
use Rattle.response_machine.specs.Within.{field_outcome, means, outcome, sound, value_of, within}

-- ---- states that do not change

pub broken-stays : (k : ℕ) (l : List ℕ) → within k Broken l ≡ Broken
unfolding within next
broken-stays k [] = refl
broken-stays k (b ∷ l) = broken-stays k l

pub comment-stays : (k : ℕ) (l : List ℕ) → within k Comment l ≡ Comment
unfolding within next
comment-stays k [] = refl
comment-stays k (b ∷ l) = comment-stays k l

pub stopped-stays : (k : ℕ) (r : Refusal) (l : List ℕ) → within k (Stopped r) l ≡ Stopped r
unfolding within next
stopped-stays k r [] = refl
stopped-stays k r (b ∷ l) = stopped-stays k r l

pub other-scans : (k j : ℕ) (l : List ℕ) → within k (Other j) l ≡ Other (scan j l)
unfolding within next scan
other-scans k j [] = refl
other-scans k j (b ∷ l) = other-scans k (found j b) l

other-closed : (k j : ℕ) → closed k (Other j) ≡ Fault (pick (eqb j 3) FieldOutOfOrder BadLine)
unfolding closed
other-closed k j = refl

broken-closed : (k : ℕ) (l : List ℕ) → closed k (within k Broken l) ≡ Fault NotADigit
unfolding closed
broken-closed k l = ap (closed k) (broken-stays k l)

-- ---- hexadecimal digits

pairs-close : (k : ℕ) (v : List ℕ) → closed k (within k Pairs v) ≡ outcome (bytes_rules v) Bytes
unfolding within next closed outcome given all_digits paired
pairs-close k [] = refl
pairs-close k (a ∷ []) = by (ltb (digit_of a) 16)
  where
    by : (t : Bool) → closed k (pick t (Half (digit_of a)) Broken) ≡ outcome (unless NotADigit (both t true) ∷ unless OddDigits false ∷ []) Bytes
    by true = refl
    by false = refl
pairs-close k (a ∷ b ∷ v) = first (ltb (digit_of a) 16) (pairs-close k v)
  where
    second : (u : Bool) → closed k (within k Pairs v) ≡ outcome (bytes_rules v) Bytes → closed k (within k (pick u Pairs Broken) v) ≡ outcome (unless NotADigit (both u (all_digits 16 v)) ∷ unless OddDigits (paired v) ∷ []) Bytes
    second true h = h
    second false h = broken-closed k v

    first : (t : Bool) → closed k (within k Pairs v) ≡ outcome (bytes_rules v) Bytes → closed k (within k (next k (pick t (Half (digit_of a)) Broken) b) v)
        ≡ outcome (unless NotADigit (both t (both (ltb (digit_of b) 16) (all_digits 16 v))) ∷ unless OddDigits (paired v) ∷ []) Bytes
    first true h = second (ltb (digit_of b) 16) h
    first false h = broken-closed k v

-- ---- decimal digits

-- the machine's number is the true one, or both are too large
Agrees : ℕ → ℕ → Type 0
Agrees n m = ((m ≤ 4294967295) × (n ≡ m)) ⊎ ((4294967295 < m) × (4294967295 < n))

agrees-same : (n m : ℕ) → n ≡ m → Agrees n m
unfolding Agrees
agrees-same n m e = elim (dec_le m 4294967295) [ yes h ↦ inl (h, e) | no h ↦ inr (omega arith, omega arith) ]

agrees-next : (n m d : ℕ) → Agrees n m → Agrees (grown n d) (m * 10 + d)
unfolding Agrees grown
agrees-next n m d (inl h) = rw (le-leb n 4294967295 (omega arith)) (agrees-same (n * 10 + d) (m * 10 + d) (omega arith))
agrees-next n m d (inr h) = rw (lt-leb n 4294967295 h.1) (inr (omega arith, h.1))

number-end : (k n m : ℕ) → Agrees n m → closed k (Number n) ≡ outcome (unless NotADigit true ∷ unless NumberTooLarge (leb m 4294967295) ∷ []) (Value m)
unfolding Agrees closed outcome given
number-end k n m (inl h) = rw (h.1, le-leb m 4294967295 h.0)
number-end k n m (inr h) = rw (lt-leb m 4294967295 h.0, lt-leb n 4294967295 h.1)

number-close : (k n m : ℕ) (v : List ℕ) → Agrees n m
    → closed k (within k (Number n) v) ≡ outcome (unless NotADigit (all_digits 10 v) ∷ unless NumberTooLarge (leb (numeral m v) 4294967295) ∷ []) (Value (numeral m v))
unfolding within next outcome given all_digits numeral
number-close k n m [] g = number-end k n m g
number-close k n m (b ∷ v) g =
    by (ltb (digit_of b) 10) (number-close k (grown n (digit_of b)) (m * 10 + digit_of b) v (agrees-next n m (digit_of b) g))
  where
    good : List Rule
    good = unless NotADigit (all_digits 10 v) ∷ unless NumberTooLarge (leb (numeral (m * 10 + digit_of b) v) 4294967295) ∷ []

    by : (t : Bool) → closed k (within k (Number (grown n (digit_of b))) v) ≡ outcome good (Value (numeral (m * 10 + digit_of b) v)) → closed k (within k (pick t (Number (grown n (digit_of b))) Broken) v)
        ≡ outcome (unless NotADigit (both t (all_digits 10 v)) ∷ unless NumberTooLarge (leb (numeral (m * 10 + digit_of b) v) 4294967295) ∷ []) (Value (numeral (m * 10 + digit_of b) v))
    by true h = h
    by false h = broken-closed k v

no-digit-close : (k : ℕ) (v : List ℕ) → closed k (within k NoDigit v) ≡ outcome (number_rules v) (Value (numeral 0 v))
unfolding within next closed outcome given all_digits numeral some
no-digit-close k [] = refl
no-digit-close k (b ∷ v) = by (ltb (digit_of b) 10)
  where
    by : (t : Bool) → closed k (within k (pick t (Number (digit_of b)) Broken) v)
        ≡ outcome (unless NotADigit (both t (all_digits 10 v)) ∷ unless NumberTooLarge (leb (numeral (0 * 10 + digit_of b) v) 4294967295) ∷ []) (Value (numeral (0 * 10 + digit_of b) v))
    by true = number-close k (digit_of b) (0 * 10 + digit_of b) v (agrees-same _ _ (omega arith))
    by false = broken-closed k v

-- ---- the value of a field

value-close : (k : ℕ) (v : List ℕ) → closed k (within k (value_start k) v) ≡ outcome (value_rules k v) (value_of k v)
unfolding value_start value_of
value-close k v = by (is_number k)
  where
    by : (t : Bool) → closed k (within k (pick t NoDigit Pairs) v) ≡ outcome (pick t (number_rules v) (bytes_rules v)) (pick t (Value (numeral 0 v)) Bytes)
    by true = no-digit-close k v
    by false = pairs-close k v

-- ---- a field's line

no-separator : (k : ℕ) (m : List ℕ) → separated m ≡ false → field_outcome k m ≡ Fault BadLine
unfolding field_outcome outcome field_rules given
no-separator k m s = rw s

-- a line that does not begin with the label that is due
other-label : (k : ℕ) (m : List ℕ) → both (ltb k 8) (begins (label k) m) ≡ false → field_outcome k m ≡ Fault (pick (separated m) FieldOutOfOrder BadLine)
unfolding field_outcome outcome field_rules given
other-label k m n = by (separated m) refl
  where
    by : (s : Bool) → separated m ≡ s → field_outcome k m ≡ Fault (pick (separated m) FieldOutOfOrder BadLine)
    by true e = rw (e, n)
    by false e = rw e

right-label : (k : ℕ) (m : List ℕ) → separated m ≡ true → both (ltb k 8) (begins (label k) m) ≡ true
    → field_outcome k m ≡ outcome (value_rules k (value_in k m)) (value_of k (value_in k m))
unfolding field_outcome outcome field_rules given
right-label k m s n = rw (s, n)

pub begins-miss : (p : List ℕ) (i b : ℕ) (l : List ℕ) → i < length p → (b ≡ get_or p i 0 → ⊥) → begins p (take i p ++ (b ∷ l)) ≡ false
unfolding begins
begins-miss [] i b l h n = absurd (not-suc-le-zero h)
begins-miss (a ∷ p) zero b l h n = rw (ne_eqb b a n)
begins-miss (a ∷ p) (suc i) b l h n = rw (eq-eqb a a refl) (begins-miss p i b l (omega arith) n)

-- the machine's count after the first bytes of a label
scan-at : ℕ → ℕ → Bool
scan-at k i = pick (ltb i (length (label k))) (both (eqb (scan 0 (take i (label k))) (separator_at k i)) (ltb (separator_at k i) 3)) true

scan-test : T (every 8 (λ k. every 8 (scan-at k)))
unfolding scan-at label separator_at scan found
scan-test = tt

module _ (k : ℕ) (due : k < 8) where
  scan-known : (i : ℕ) → i < length (label k) → T (both (eqb (scan 0 (take i (label k))) (separator_at k i)) (ltb (separator_at k i) 3))
  unfolding scan-at
  scan-known i h = let short = label-short k in rw (lt-ltb _ _ h) at (below2 8 scan-at scan-test k i due (omega arith))

  scan-label : (i : ℕ) → i < length (label k) → scan 0 (take i (label k)) ≡ separator_at k i
  scan-label i h = eqb→eq _ _ (both_first (eqb (scan 0 (take i (label k))) (separator_at k i)) (ltb (separator_at k i) 3) (scan-known i h))

  scan-open : (i : ℕ) → i < length (label k) → separator_at k i < 3
  scan-open i h = ltb→lt _ _ (both_rest (eqb (scan 0 (take i (label k))) (separator_at k i)) (ltb (separator_at k i) 3) (scan-known i h))

  -- the label and a value
  label-value : (v : List ℕ) → field_outcome k (label k ++ v) ≡ outcome (value_rules k v) (value_of k v)
  label-value v =
      right-label k (label k ++ v)
      (label-separated k due v)
      (rw (lt-ltb k 8 due) (begins-all (label k) v))
      ∙ ap (λ w. outcome (value_rules k w) (value_of k w)) (drop-append_seam (label k) v)

  -- one byte more
  pub longer : (i b : ℕ) (l : List ℕ) → i < length (label k) → b ≡ get_or (label k) i 0 → take (i + 1) (label k) ++ l ≡ take i (label k) ++ (b ∷ l)
  longer i b l h e = rw (add-one i, take-suc (label k) i 0 h, append_assoc, e)

  -- the scan goes on from the label's first bytes
  scan-off : (i b : ℕ) (l : List ℕ) → i < length (label k) → separated (take i (label k) ++ (b ∷ l)) ≡ eqb (scan (found (separator_at k i) b) l) 3
  scan-off i b l h =
      let go : scan 0 (take i (label k) ++ (b ∷ l)) ≡ scan (found (separator_at k i) b) l = scan-append 0 (take i (label k)) (b ∷ l) ∙ ap (λ j. scan j (b ∷ l)) (scan-label i h) ∙ scan-more (separator_at k i) b l in
      separated-scan (take i (label k) ++ (b ∷ l)) ∙ ap (λ j. eqb j 3) go

  labelled-close : (i b : ℕ) (l : List ℕ) → i < length (label k)
      → (i + 1 < length (label k) → closed k (within k (Label (i + 1)) l) ≡ field_outcome k (take (i + 1) (label k) ++ l))
      → closed k (within k (labelled k i b) l) ≡ field_outcome k (take i (label k) ++ (b ∷ l))
  unfolding labelled
  labelled-close i b l h more =
      elim (ℕ_discrete b (get_or (label k) i 0)) [
        | yes e ↦
            elim (ℕ_discrete (i + 1) (length (label k))) [
              | yes w ↦
                  rw (lt-ltb _ _ h, eq-eqb _ _ e, eq-eqb _ _ w)
                  (value-close k l
                  ∙ sym (label-value l)
                  ∙ ap (field_outcome k) (ap (λ p. p ++ l) (sym (take_all (i + 1) (label k) (omega arith))) ∙ longer i b l h e))
              | no w ↦ rw (lt-ltb _ _ h, eq-eqb _ _ e, ne_eqb _ _ w) (more (omega arith) ∙ ap (field_outcome k) (longer i b l h e))
            ]
        | no n ↦
            rw (lt-ltb _ _ h, ne_eqb _ _ n)
            (ap (closed k) (other-scans k _ l)
            ∙ other-closed k (scan (found (separator_at k i) b) l)
            ∙ ap (λ s. Fault (pick s FieldOutOfOrder BadLine)) (sym (scan-off i b l h))
            ∙ sym (other-label k (take i (label k) ++ (b ∷ l)) (rw (lt-ltb k 8 due) (begins-miss (label k) i b l h n))))
      ]

  label-end : (i : ℕ) → i < length (label k) → field_outcome k (take i (label k) ++ []) ≡ Fault BadLine
  label-end i h =
      no-separator k (take i (label k) ++ [])
      (separated-scan (take i (label k) ++ []) ∙ rw (append-nil, scan-label i h) (let few = scan-open i h in ne_eqb (separator_at k i) 3 (λ e. omega arith)))

label-close : (k i : ℕ) (l : List ℕ) → k < 8 → i < length (label k) → closed k (within k (Label i) l) ≡ field_outcome k (take i (label k) ++ l)
unfolding within next closed
label-close k i [] due h = sym (label-end k due i h)
label-close k i (b ∷ l) due h = labelled-close k due i b l h (λ g. label-close k (i + 1) l due g)

-- after the last field no line is a field's
past-close : (k b : ℕ) (l : List ℕ) → 8 ≤ k → closed k (within k (labelled k 0 b) l) ≡ field_outcome k (b ∷ l)
unfolding labelled separator_at
past-close k b l h =
    let none = label-past k h in
    rw none
    (ap (closed k) (other-scans k (found 0 b) l)
    ∙ other-closed k (scan (found 0 b) l)
    ∙ ap (λ s. Fault (pick s FieldOutOfOrder BadLine)) (sym (separated-scan (b ∷ l) ∙ ap (λ j. eqb j 3) (scan-more 0 b l)))
    ∙ sym (other-label k (b ∷ l) (rw (le-ltb k 8 h))))

-- ---- any line

-- the machine's line is what the rules say
pub line-means : (k : ℕ) (l : List ℕ) → closed k (within k Empty l) ≡ means k l
unfolding within next closed means outcome line_rules given sound field_outcome
line-means k [] = by (whole k)
  where
    by : (t : Bool) → pick t Gap (Fault FieldOutOfOrder) ≡ outcome (unless FieldOutOfOrder t ∷ []) Gap
    by true = refl
    by false = refl
line-means k (b ∷ l) =
    elim (ℕ_discrete b 35) [
      | yes e ↦ rw (eq-eqb b 35 e) (ap (closed k) (comment-stays k l))
      | no n ↦ rw (ne_eqb b 35 n) (elim (dec_lt k 8) [ yes due ↦ field due | no past ↦ past-close k b l (omega arith) ])
    ]
  where
    field : k < 8 → closed k (within k (labelled k 0 b) l) ≡ field_outcome k (b ∷ l)
    field due = let long = label-long k due in labelled-close k due 0 b l (omega arith) (λ g. label-close k (0 + 1) l due g)
