-- The machine fed a whole file answers the file's refusal, and fed pieces it answers what it answers of the whole.
-- Rests on Rules, Within and Machine.
use Rattle.std.specs.Prelude.{◌≡◌, Bool, true, false, ◌↔◌, ℕ, zero, suc, ◌+◌, ◌<◌, ◌≤◌, eqb, ltb, length, drop, get_or, Ok, Err}
use Rattle.std.proofs.Math.Path.{refl}
use Rattle.std.proofs.Common.{sym, ap, ◌∙◌, add-one, arith, eq-eqb, ne_eqb, lt-ltb, ltb-true, drop-cons, List, [], ◌∷◌, ◌++◌, append-nil}
use Rattle.std.proofs.Math.Decide.{ℕ_discrete}
use Rattle.ground.specs.Pick.{pick, both, both_left}
use Rattle.ground.specs.Answers.{first, number_of}
use Rattle.ground.specs.AnswerLaws.{demand-number, done-answer}
use Rattle.response_format.specs.Given.{given-met, Refuses, refuses, given-refused}
use Rattle.ground.specs.declared.Refusal.{Refusal}
use Rattle.ground.specs.First.{first_passes}
use Rattle.ground.specs.declared.Refusal.TheVariants.{BadLine, FieldOutOfOrder}
use Rattle.response_format.specs.Fields.{digit_of, numeral, label, is_number}
use Rattle.response_format.specs.Rules.{field_rules, separated, begins, line_rules, fault, after, whole, refusal, refusal_of, cut}
use Rattle.response_format.specs.Tells.{keep, noted}
use Rattle.response_format.specs.Cuts.{cut-is}
use Rattle.response_format.proofs.Accepts.{format-exactly}
use Rattle.response_format.specs.Format.{Format, Free, free-none, free_more, AllFree, all_none, all_more, join}
use Rattle.response_machine.specs.Machine.{telling, stop, feeds, state, next, closed, settled, stepped, fields_after, ended, is_stopped, start, labelled, value_start}
use Rattle.response_machine.specs.Within.{within, outcome, sound, means, value_of}
use Rattle.response_machine.proofs.Within.{line-means}
use Rattle.response_machine.specs.declared.Line.{Line}
use Rattle.response_machine.specs.declared.Line.TheVariants.{Empty, Comment, Label, Other, Broken, NoDigit, Number, Pairs, Half, Stopped}
use Rattle.response_machine.specs.declared.Closed.TheVariants.{Value, Bytes, Fault}
use Rattle.response_format.specs.declared.Numbers.{Numbers}
use Rattle.response_machine.specs.declared.Reader.{Reader}
use Rattle.response_machine.specs.declared.Fed.{Fed}
use Rattle.response_machine.specs.Pieces.{drop_all}
use Rattle.response_machine.specs.Reads.{end_of, fed}

-- ---- feeding

-- however the reads cut the file
pub fed-append : (r : Reader) (p q : List ℕ) → fed r (p ++ q) ≡ fed (fed r p) q
unfolding fed
fed-append r [] q = refl
fed-append r (b ∷ p) q = fed-append (stepped r b).reader p q

-- ---- a line and what follows it

module _ (k : ℕ) (e : Numbers) where
  pub fed-byte : (s : Line) (b : ℕ) (f : List ℕ) → (b ≡ 10 → ⊥) → fed (state k e s) (b ∷ f) ≡ fed (state k e (next k s b)) f
  unfolding fed stepped
  fed-byte s b f n = rw (ne_eqb b 10 n)

  pub fed-feed : (s : Line) (f : List ℕ) → fed (state k e s) (10 ∷ f) ≡ fed (settled k e (closed k s)).reader f
  unfolding fed stepped
  fed-feed s f = refl

  pub fed-line : (s : Line) (l f : List ℕ) → Free l → fed (state k e s) (l ++ f) ≡ fed (state k e (within k s l)) f
  unfolding within
  fed-line s [] f free-none = refl
  fed-line s (b ∷ l) f (free_more n h) = fed-byte s b (l ++ f) n ∙ fed-line (next k s b) l f h

  -- a line and its line feed
  pub fed-ended : (l f : List ℕ) → Free l → fed (state k e Empty) (l ++ (10 ∷ f)) ≡ fed (settled k e (means k l)).reader f
  fed-ended l f h = fed-line Empty l (10 ∷ f) h ∙ fed-feed (within k Empty l) f ∙ ap (λ c. fed (settled k e c).reader f) (line-means k l)

  pub fed-stopped : (r : Refusal) (f : List ℕ) → fed (state k e (Stopped r)) f ≡ state k e (Stopped r)
  unfolding fed next closed settled
  fed-stopped r [] = refl
  fed-stopped r (b ∷ f) =
      elim (ℕ_discrete b 10) [ yes i ↦ rw i (fed-feed (Stopped r) f ∙ fed-stopped r f) | no m ↦ fed-byte (Stopped r) b f m ∙ fed-stopped r f ]

-- ---- a sound line

-- a field's line is sound only where a field is due
pub field-due : (k : ℕ) (m : List ℕ) → first (field_rules k m) ≡ 0 → k < 8
unfolding field_rules
field-due k m z =
    let (a, p) = first_passes BadLine (separated m) _ z in
    let (c, q) = first_passes FieldOutOfOrder (both (ltb k 8) (begins (label k) m)) _ p in
    ltb-true k 8 (both_left (ltb k 8) (begins (label k) m) c)

pub settled-field : (k : ℕ) (e : Numbers) (v : List ℕ) → k < 8 → (settled k e (value_of k v)).reader ≡ state (k + 1) (pick (is_number k) (keep k (numeral 0 v) e) e) Empty
unfolding value_of settled fields_after
settled-field k e v due = by (is_number k)
  where
    by : (t : Bool) → (settled k e (pick t (Value (numeral 0 v)) Bytes)).reader ≡ state (k + 1) (pick t (keep k (numeral 0 v) e) e) Empty
    by true = rw (lt-ltb k 8 due)
    by false = rw (lt-ltb k 8 due)

pub settled-sound : (k : ℕ) (e : Numbers) (l : List ℕ) → fault k l ≡ 0 → (settled k e (sound k l)).reader ≡ state (after k l) (noted k l e) Empty
unfolding sound after noted settled line_rules
settled-sound k e [] z = refl
settled-sound k e (b ∷ l) z =
    elim (ℕ_discrete b 35) [
      | yes i ↦ rw (eq-eqb b 35 i)
      | no n ↦ rw (ne_eqb b 35 n) (settled-field k e (drop (length (label k)) (b ∷ l)) (field-due k (b ∷ l) (rw (ne_eqb b 35 n) at z)))
    ]

pub means-sound : (k : ℕ) (l : List ℕ) → fault k l ≡ 0 → means k l ≡ sound k l
unfolding means outcome
means-sound k l z = rw (given-met (line_rules k l) (sound k l) z)

pub means-fault : (k : ℕ) (l : List ℕ) (w : Refuses (line_rules k l)) → means k l ≡ Fault w.refusal
unfolding means outcome
means-fault k l w = rw (given-refused (line_rules k l) (sound k l) w)

stopped-end : (k : ℕ) (e : Numbers) (r : Refusal) (f : List ℕ) → end_of (fed (settled k e (Fault r)).reader f) ≡ Err r
unfolding settled ended
stopped-end k e r f = ap end_of (fed-stopped k e r f)

-- ---- an unfinished line

-- a line that is begun, and none before refused
data Busy : Line → Type 0 where
  in-comment : Busy Comment
  in-label : {i : ℕ} → Busy (Label i)
  in-other : {j : ℕ} → Busy (Other j)
  in-broken : Busy Broken
  in-no-digit : Busy NoDigit
  in-number : {n : ℕ} → Busy (Number n)
  in_pairs : Busy Pairs
  in-half : {h : ℕ} → Busy (Half h)

busy-pick : (t : Bool) {a b : Line} → Busy a → Busy b → Busy (pick t a b)
busy-pick true p q = p
busy-pick false p q = q

busy-labelled : (k i b : ℕ) → Busy (labelled k i b)
unfolding labelled value_start
busy-labelled k i b =
    busy-pick (both (ltb i (length (label k))) (eqb b (get_or (label k) i 0)))
    (busy-pick (eqb (i + 1) (length (label k))) (busy-pick (is_number k) in-no-digit in_pairs) in-label)
    in-other

busy-next : (k : ℕ) {s : Line} (b : ℕ) → Busy s → Busy (next k s b)
unfolding next
busy-next k b in-comment = in-comment
busy-next k b (in-label {i = i}) = busy-labelled k i b
busy-next k b in-other = in-other
busy-next k b in-broken = in-broken
busy-next k b in-no-digit = busy-pick (ltb (digit_of b) 10) in-number in-broken
busy-next k b in-number = busy-pick (ltb (digit_of b) 10) in-number in-broken
busy-next k b in_pairs = busy-pick (ltb (digit_of b) 16) in-half in-broken
busy-next k b in-half = busy-pick (ltb (digit_of b) 16) in_pairs in-broken

busy-first : (k b : ℕ) → Busy (next k Empty b)
unfolding next
busy-first k b = busy-pick (eqb b 35) in-comment (busy-labelled k 0 b)

busy-within : (k : ℕ) (s : Line) (l : List ℕ) → Busy s → Busy (within k s l)
unfolding within
busy-within k s [] h = h
busy-within k s (b ∷ l) h = busy-within k (next k s b) l (busy-next k b h)

busy-ended : (k : ℕ) {s : Line} → Busy s → ended k s ≡ Err BadLine
unfolding ended
busy-ended k in-comment = refl
busy-ended k in-label = refl
busy-ended k in-other = refl
busy-ended k in-broken = refl
busy-ended k in-no-digit = refl
busy-ended k in-number = refl
busy-ended k in_pairs = refl
busy-ended k in-half = refl

pub ended-rest : (k : ℕ) (rest : List ℕ) → number_of (ended k (within k Empty rest)) ≡ refusal k [] rest
unfolding within ended refusal
ended-rest k [] = demand-number (whole k) FieldOutOfOrder
ended-rest k (b ∷ rest) = ap number_of (busy-ended k (busy-within k (next k Empty b) rest (busy-first k b)))

busy-going : {s : Line} → Busy s → is_stopped s ≡ false
unfolding is_stopped
busy-going in-comment = refl
busy-going in-label = refl
busy-going in-other = refl
busy-going in-broken = refl
busy-going in-no-digit = refl
busy-going in-number = refl
busy-going in_pairs = refl
busy-going in-half = refl

-- within a line nothing stops
pub rest-going : (k : ℕ) (rest : List ℕ) → is_stopped (within k Empty rest) ≡ false
unfolding within is_stopped
rest-going k [] = refl
rest-going k (b ∷ rest) = busy-going (busy-within k (next k Empty b) rest (busy-first k b))

-- ---- a file

-- fed the lines and the rest of a file, the machine ends with the file's refusal
pub reads_lines : (k : ℕ) (e : Numbers) (ls : List (List ℕ)) (rest : List ℕ) → AllFree ls → Free rest
    → number_of (end_of (fed (state k e Empty) (join ls rest))) ≡ refusal k ls rest
unfolding join refusal fed
reads_lines k e [] rest all_none h = ap (λ r. number_of (end_of r)) (ap (fed (state k e Empty)) (sym (append-nil rest)) ∙ fed-line k e Empty rest [] h) ∙ ended-rest k rest
reads_lines k e (l ∷ ls) rest (all_more g gs) h =
    elim (ℕ_discrete (fault k l) 0) [
      | yes z ↦
          rw (eq-eqb (fault k l) 0 z)
          (ap (λ r. number_of (end_of r)) (fed-ended k e l (join ls rest) g)
          ∙ ap (λ r. number_of (end_of (fed r (join ls rest)))) (ap (λ c. (settled k e c).reader) (means-sound k l z) ∙ settled-sound k e l z)
          ∙ reads_lines (after k l) (noted k l e) ls rest gs h)
      | no n ↦
          let w = refuses (line_rules k l) n in
          rw (ne_eqb (fault k l) 0 n)
          (ap (λ r. number_of (end_of r)) (fed-ended k e l (join ls rest) g)
          ∙ ap (λ c. number_of (end_of (fed (settled k e c).reader (join ls rest)))) (means-fault k l w)
          ∙ ap number_of (stopped-end k e w.refusal (join ls rest))
          ∙ w.number)
    ]

-- ---- a file

-- the machine ends with the file's refusal
pub reads : (f : List ℕ) → number_of (end_of (fed start f)) ≡ refusal_of f
reads f =
    let w = cut-is f in
    ap (λ g. number_of (end_of (fed start g))) (sym w.is) ∙ reads_lines 0 start.numbers (cut f).lines (cut f).rest w.free w.last

-- the reader accepts exactly the files of the format
pub accepts-exactly : (f : List ℕ) → (end_of (fed start f) ≡ Ok tt) ↔ Format f
accepts-exactly f = ((λ d. (format-exactly f).0 (sym (reads f) ∙ ap number_of d)), (λ w. done-answer (reads f ∙ (format-exactly f).1 w)))

-- ---- a piece in parts

abbrev tail : List ℕ → List ℕ
tail [] = []
tail (b ∷ p) = p

drop-tail : (i : ℕ) (q : List ℕ) → drop (suc i) q ≡ tail (drop i q)
drop-tail zero [] = refl
drop-tail zero (b ∷ q) = refl
drop-tail (suc i) [] = refl
drop-tail (suc i) (b ∷ q) = drop-tail i q

pub drop-next : (i : ℕ) (q : List ℕ) (b : ℕ) (p : List ℕ) → drop i q ≡ b ∷ p → drop (i + 1) q ≡ p
drop-next i q b p e = rw (add-one i) (drop-tail i q ∙ ap tail e)

feeds-from : (r : Reader) (i : ℕ) (p : List ℕ) → i ≤ (feeds r i p).at
unfolding feeds
feeds-from r i [] = omega arith
feeds-from r i (b ∷ p) = by (telling (stepped r b).event) (feeds-from (stepped r b).reader (i + 1) p)
  where
    by : (t : Bool) → i + 1 ≤ (feeds (stepped r b).reader (i + 1) p).at
        → i ≤ (pick t (stop (stepped r b).reader (stepped r b).event (i + 1)) (feeds (stepped r b).reader (i + 1) p)).at
    by true h = omega arith
    by false h = omega arith

-- no byte is lost between the parts
pub fed-feeds : (r : Reader) (i : ℕ) (p q : List ℕ) → drop i q ≡ p → fed (feeds r i p).reader (drop (feeds r i p).at q) ≡ fed r p
unfolding fed feeds
fed-feeds r i [] q e = ap (fed r) e
fed-feeds r i (b ∷ p) q e = by (telling (stepped r b).event) (fed-feeds (stepped r b).reader (i + 1) p q (drop-next i q b p e))
  where
    by : (t : Bool) → fed (feeds (stepped r b).reader (i + 1) p).reader (drop (feeds (stepped r b).reader (i + 1) p).at q) ≡ fed (stepped r b).reader p
        → fed (pick t (stop (stepped r b).reader (stepped r b).event (i + 1)) (feeds (stepped r b).reader (i + 1) p)).reader
        (drop (pick t (stop (stepped r b).reader (stepped r b).event (i + 1)) (feeds (stepped r b).reader (i + 1) p)).at q)
        ≡ fed (stepped r b).reader p
    by true h = ap (fed (stepped r b).reader) (drop-next i q b p e)
    by false h = h

-- a part is not empty
pub feeds-moves : (r : Reader) (i b : ℕ) (p : List ℕ) → i < (feeds r i (b ∷ p)).at
unfolding feeds
feeds-moves r i b p = by (telling (stepped r b).event) (feeds-from (stepped r b).reader (i + 1) p)
  where
    by : (t : Bool) → i + 1 ≤ (feeds (stepped r b).reader (i + 1) p).at
        → i < (pick t (stop (stepped r b).reader (stepped r b).event (i + 1)) (feeds (stepped r b).reader (i + 1) p)).at
    by true h = omega arith
    by false h = omega arith

module _ (r : Reader) (i : ℕ) (q : List ℕ) {w : Fed} (is : w ≡ feeds r i (drop i q)) where
  pub part-fed : fed w.reader (drop w.at q) ≡ fed r (drop i q)
  part-fed = rw is (fed-feeds r i (drop i q) q refl)

  pub part-moves : i < length q → i < w.at
  part-moves h = rw (is, drop-cons q i 0 h) (feeds-moves r i (get_or q i 0) (drop (suc i) q))

pub fed-all : (r : Reader) (i : ℕ) (q : List ℕ) → length q ≤ i → fed r (drop i q) ≡ r
unfolding fed
fed-all r i q h = rw (drop_all i q h)

-- one byte more of a piece
pub fed-next : (r : Reader) (i : ℕ) (q : List ℕ) → i < length q → fed (stepped r (get_or q i 0)).reader (drop (i + 1) q) ≡ fed r (drop i q)
unfolding fed
fed-next r i q h = rw (drop-cons q i 0 h, add-one i)
