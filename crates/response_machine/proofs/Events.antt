-- The machine hands out what the file says, byte by byte and however it is cut.
-- Rests on Within and Reading.
use Rattle.std.specs.Prelude.{◌≡◌, Bool, true, false, ℕ, zero, suc, ◌+◌, ◌*◌, ◌%◌, ◌<◌, ◌≤◌, eqb, ltb, length, get_or, take, Some, None}
use Rattle.std.proofs.Math.Path.{refl, sym, ap}
use Rattle.std.proofs.Common.{ap₂, ◌∙◌, not-suc-le-zero, arith, take_all, List, [], ◌∷◌, ◌++◌, map, append-nil, append_assoc, eq-eqb, ne_eqb, lt-ltb, le-ltb, ltb-true}
use Rattle.std.proofs.Math.Decide.{ℕ_discrete, dec_lt}
use Rattle.std.proofs.Math.Seq.{drop-append_seam}
use Rattle.ground.specs.Pick.{pick, both}
use Rattle.response_format.specs.Given.{given-met, refuses, given-refused}
use Rattle.ground.specs.declared.Refusal.{Refusal}
use Rattle.response_format.specs.Fields.{digit_of, numeral, label, is_number}
use Rattle.response_format.specs.Rules.{begins, value_in, line_rules, fault, after, cut}
use Rattle.response_format.proofs.Labels.{label-past, label-long, begins-all}
use Rattle.response_format.specs.Format.{Free, free-none, free_more, AllFree, all_none, all_more, join}
use Rattle.response_machine.specs.Machine.{state, grown, value_start, labelled, separator_at, found, next, handed, closed, settled, stepped, start}
use Rattle.response_machine.specs.Within.{within, means, sound, value_of}
use Rattle.response_machine.proofs.Within.{line-means, begins-miss, longer}
use Rattle.response_format.specs.Tells.{decoded, value_bytes, field_bytes, line_bytes, value_closing, closing, noted, tells}
use Rattle.response_format.specs.Cuts.{cut-is}
use Rattle.response_machine.specs.Reads.{fed}
use Rattle.response_machine.proofs.Reading.{settled-sound, means-sound, means-fault}
use Rattle.response_machine.specs.declared.Line.{Line}
use Rattle.response_machine.specs.declared.Line.TheVariants.{Empty, Comment, Label, Other, Broken, NoDigit, Number, Pairs, Half, Stopped}
use Rattle.response_machine.specs.declared.Closed.TheVariants as closed'
use Rattle.response_format.specs.declared.Numbers.{Numbers}
use Rattle.response_machine.specs.declared.Reader.{Reader}
use Rattle.response_format.specs.declared.Event.{Event}
use Rattle.response_format.specs.declared.Event.TheVariants as event
use Rattle.response_machine.specs.Events.{events, told}

-- however the reads cut the file
pub events-append : (r : Reader) (p q : List ℕ) → events r (p ++ q) ≡ events r p ++ events (fed r p) q
unfolding events fed
events-append r [] q = refl
events-append r (b ∷ p) q = ap (λ x. told (stepped r b).event ++ x) (events-append (stepped r b).reader p q) ∙ sym (append_assoc (told (stepped r b).event) _ _)

-- ---- within a line

unfoldable handing : ℕ → Line → List ℕ → List Event
handing k s [] = []
handing k s (b ∷ l) = told (handed k s b) ++ handing k (next k s b) l

broken-quiet : (k : ℕ) (l : List ℕ) → handing k Broken l ≡ []
unfolding handing next handed told
broken-quiet k [] = refl
broken-quiet k (b ∷ l) = broken-quiet k l

comment-quiet : (k : ℕ) (l : List ℕ) → handing k Comment l ≡ []
unfolding handing next handed told
comment-quiet k [] = refl
comment-quiet k (b ∷ l) = comment-quiet k l

other-quiet : (k j : ℕ) (l : List ℕ) → handing k (Other j) l ≡ []
unfolding handing next handed told
other-quiet k j [] = refl
other-quiet k j (b ∷ l) = other-quiet k (found j b) l

number-quiet : (k n : ℕ) (l : List ℕ) → handing k (Number n) l ≡ []
unfolding handing next handed told
number-quiet k n [] = refl
number-quiet k n (b ∷ l) = by (ltb (digit_of b) 10) (number-quiet k (grown n (digit_of b)) l)
  where
    by : (t : Bool) → handing k (Number (grown n (digit_of b))) l ≡ [] → handing k (pick t (Number (grown n (digit_of b))) Broken) l ≡ []
    by true h = h
    by false h = broken-quiet k l

no-digit-quiet : (k : ℕ) (l : List ℕ) → handing k NoDigit l ≡ []
unfolding handing next handed told
no-digit-quiet k [] = refl
no-digit-quiet k (b ∷ l) = by (ltb (digit_of b) 10)
  where
    by : (t : Bool) → handing k (pick t (Number (digit_of b)) Broken) l ≡ []
    by true = number-quiet k (digit_of b) l
    by false = broken-quiet k l

abbrev bytes_as : ℕ → List ℕ → List Event
bytes_as k v = map (λ x. event.Byte k x) v

pairs-hand : (k : ℕ) (v : List ℕ) → handing k Pairs v ≡ bytes_as k (decoded v)
unfolding handing next handed told decoded
pairs-hand k [] = refl
pairs-hand k (a ∷ []) = refl
pairs-hand k (a ∷ b ∷ v) = first (ltb (digit_of a) 16) refl (pairs-hand k v)
  where
    second : (u : Bool) → digit_of a < 16 → handing k Pairs v ≡ bytes_as k (decoded v)
        → told (pick u (Some (event.Byte k (digit_of a % 16 * 16 + digit_of b))) None) ++ handing k (pick u Pairs Broken) v
        ≡ bytes_as k (pick u ((digit_of a * 16 + digit_of b) ∷ decoded v) [])
    second true small h =
        let same : digit_of a % 16 * 16 + digit_of b ≡ digit_of a * 16 + digit_of b = omega arith in
        ap₂ (λ x y. event.Byte k x ∷ y) same h
    second false small h = broken-quiet k v

    first : (t : Bool) → ltb (digit_of a) 16 ≡ t → handing k Pairs v ≡ bytes_as k (decoded v)
        → handing k (pick t (Half (digit_of a)) Broken) (b ∷ v)
        ≡ bytes_as k (pick (both t (ltb (digit_of b) 16)) ((digit_of a * 16 + digit_of b) ∷ decoded v) [])
    first true e h = second (ltb (digit_of b) 16) (ltb-true _ _ e) h
    first false e h = broken-quiet k v

value-hand : (k : ℕ) (v : List ℕ) → handing k (value_start k) v ≡ value_bytes k v
unfolding value_start value_bytes
value-hand k v = by (is_number k)
  where
    by : (t : Bool) → handing k (pick t NoDigit Pairs) v ≡ pick t [] (bytes_as k (decoded v))
    by true = no-digit-quiet k v
    by false = pairs-hand k v

-- ---- a field's line

right-bytes : (k : ℕ) (m : List ℕ) → both (ltb k 8) (begins (label k) m) ≡ true → field_bytes k m ≡ value_bytes k (value_in k m)
unfolding field_bytes
right-bytes k m t = rw t

other-bytes : (k : ℕ) (m : List ℕ) → both (ltb k 8) (begins (label k) m) ≡ false → field_bytes k m ≡ []
unfolding field_bytes
other-bytes k m t = rw t

begins-short : (p : List ℕ) (i : ℕ) → i < length p → begins p (take i p ++ []) ≡ false
unfolding begins
begins-short [] i h = absurd (not-suc-le-zero h)
begins-short (a ∷ p) zero h = refl
begins-short (a ∷ p) (suc i) h = rw (eq-eqb a a refl) (begins-short p i (omega arith))

labelled-quiet : (k i b : ℕ) (l : List ℕ) → (both (ltb i (length (label k))) (eqb b (get_or (label k) i 0)) ≡ false) → handing k (labelled k i b) l ≡ []
unfolding labelled
labelled-quiet k i b l t = rw t (other-quiet k (found (separator_at k i) b) l)

module _ (k : ℕ) (due : k < 8) where
  label-bytes : (v : List ℕ) → field_bytes k (label k ++ v) ≡ value_bytes k v
  label-bytes v = right-bytes k (label k ++ v) (rw (lt-ltb k 8 due) (begins-all (label k) v)) ∙ ap (value_bytes k) (drop-append_seam (label k) v)

  labelled-hand : (i b : ℕ) (l : List ℕ) → i < length (label k)
      → (i + 1 < length (label k) → handing k (Label (i + 1)) l ≡ field_bytes k (take (i + 1) (label k) ++ l))
      → handing k (labelled k i b) l ≡ field_bytes k (take i (label k) ++ (b ∷ l))
  unfolding labelled
  labelled-hand i b l h more =
      elim (ℕ_discrete b (get_or (label k) i 0)) [
        | yes e ↦
            elim (ℕ_discrete (i + 1) (length (label k))) [
              | yes w ↦
                  rw (lt-ltb _ _ h, eq-eqb _ _ e, eq-eqb _ _ w)
                  (value-hand k l
                  ∙ sym (label-bytes l)
                  ∙ ap (field_bytes k) (ap (λ p. p ++ l) (sym (take_all (i + 1) (label k) (omega arith))) ∙ longer k due i b l h e))
              | no w ↦ rw (lt-ltb _ _ h, eq-eqb _ _ e, ne_eqb _ _ w) (more (omega arith) ∙ ap (field_bytes k) (longer k due i b l h e))
            ]
        | no n ↦
            rw (lt-ltb _ _ h, ne_eqb _ _ n)
            (other-quiet k (found (separator_at k i) b) l
            ∙ sym (other-bytes k (take i (label k) ++ (b ∷ l)) (rw (lt-ltb k 8 due) (begins-miss (label k) i b l h n))))
      ]

label-hand : (k i : ℕ) (l : List ℕ) → k < 8 → i < length (label k) → handing k (Label i) l ≡ field_bytes k (take i (label k) ++ l)
unfolding handing next handed told
label-hand k i [] due h = sym (other-bytes k (take i (label k) ++ []) (rw (lt-ltb k 8 due) (begins-short (label k) i h)))
label-hand k i (b ∷ l) due h = labelled-hand k due i b l h (λ g. label-hand k (i + 1) l due g)

past-hand : (k b : ℕ) (l : List ℕ) → 8 ≤ k → handing k (labelled k 0 b) l ≡ field_bytes k (b ∷ l)
past-hand k b l h =
    labelled-quiet k 0 b l (rw (label-past k h)) ∙ sym (other-bytes k (b ∷ l) (rw (le-ltb k 8 h)))

-- a line hands out its bytes
line-hands : (k : ℕ) (l : List ℕ) → handing k Empty l ≡ line_bytes k l
unfolding handing next handed told line_bytes
line-hands k [] = refl
line-hands k (b ∷ l) =
    elim (ℕ_discrete b 35) [
      | yes e ↦ rw (eq-eqb b 35 e) (comment-quiet k l)
      | no n ↦ rw (ne_eqb b 35 n) (elim (dec_lt k 8) [ yes due ↦ field due | no past ↦ past-hand k b l (omega arith) ])
    ]
  where
    field : k < 8 → handing k (labelled k 0 b) l ≡ field_bytes k (b ∷ l)
    field due = let long = label-long k due in labelled-hand k due 0 b l (omega arith) (λ g. label-hand k (0 + 1) l due g)

-- ---- a file

module _ (k : ℕ) (e : Numbers) where
  events-byte : (s : Line) (b : ℕ) (f : List ℕ) → (b ≡ 10 → ⊥) → events (state k e s) (b ∷ f) ≡ told (handed k s b) ++ events (state k e (next k s b)) f
  unfolding events stepped
  events-byte s b f n = rw (ne_eqb b 10 n)

  events-feed : (s : Line) (f : List ℕ) → events (state k e s) (10 ∷ f) ≡ told (settled k e (closed k s)).event ++ events (settled k e (closed k s)).reader f
  unfolding events stepped
  events-feed s f = refl

  events-line : (s : Line) (l f : List ℕ) → Free l → events (state k e s) (l ++ f) ≡ handing k s l ++ events (state k e (within k s l)) f
  unfolding within handing
  events-line s [] f free-none = refl
  events-line s (b ∷ l) f (free_more n h) =
      events-byte s b (l ++ f) n
      ∙ ap (λ x. told (handed k s b) ++ x) (events-line (next k s b) l f h)
      ∙ sym (append_assoc (told (handed k s b)) _ _)

  events-ended : (l f : List ℕ) → Free l
      → events (state k e Empty) (l ++ (10 ∷ f)) ≡ line_bytes k l ++ (told (settled k e (means k l)).event ++ events (settled k e (means k l)).reader f)
  events-ended l f h =
      events-line Empty l (10 ∷ f) h
      ∙ ap₂ (λ x y. x ++ y) (line-hands k l)
      (events-feed (within k Empty l) f ∙ ap (λ c. told (settled k e c).event ++ events (settled k e c).reader f) (line-means k l))

  events-stopped : (r : Refusal) (f : List ℕ) → events (state k e (Stopped r)) f ≡ []
  unfolding events next closed settled handed told
  events-stopped r [] = refl
  events-stopped r (b ∷ f) =
      elim (ℕ_discrete b 10) [ yes i ↦ rw i (events-feed (Stopped r) f ∙ events-stopped r f) | no m ↦ events-byte (Stopped r) b f m ∙ events-stopped r f ]

closing-value : (k : ℕ) (e : Numbers) (v : List ℕ) → told (settled k e (value_of k v)).event ≡ value_closing k e v
unfolding value_of settled told value_closing
closing-value k e v = by (is_number k)
  where
    by : (t : Bool) → told (settled k e (pick t (closed'.Value (numeral 0 v)) closed'.Bytes)).event
        ≡ pick t (event.Number k (numeral 0 v)) (pick (eqb k 7) (event.Entry e) (event.Ended k)) ∷ []
    by true = refl
    by false = refl

closing-told : (k : ℕ) (e : Numbers) (l : List ℕ) → told (settled k e (sound k l)).event ≡ closing k e l
unfolding sound closing settled told
closing-told k e [] = refl
closing-told k e (b ∷ l) =
    elim (ℕ_discrete b 35) [ yes i ↦ rw (eq-eqb b 35 i) | no n ↦ rw (ne_eqb b 35 n) (closing-value k e (value_in k (b ∷ l))) ]

fault-told : (k : ℕ) (e : Numbers) (r : Refusal) (f : List ℕ)
    → told (settled k e (closed'.Fault r)).event ++ events (settled k e (closed'.Fault r)).reader f ≡ event.Refused r ∷ []
unfolding settled told
fault-told k e r f = ap (λ x. event.Refused r ∷ x) (events-stopped k e r f)

pub tells-lines : (k : ℕ) (e : Numbers) (ls : List (List ℕ)) (rest : List ℕ) → AllFree ls → Free rest → events (state k e Empty) (join ls rest) ≡ tells k e ls rest
unfolding join tells events
tells-lines k e [] rest all_none h =
    ap (events (state k e Empty)) (sym (append-nil rest)) ∙ events-line k e Empty rest [] h ∙ append-nil (handing k Empty rest) ∙ line-hands k rest
tells-lines k e (l ∷ ls) rest (all_more g gs) h =
    elim (ℕ_discrete (fault k l) 0) [
      | yes z ↦
          rw (given-met (line_rules k l) (closing k e l ++ tells (after k l) (noted k l e) ls rest) z)
          (events-ended k e l (join ls rest) g
          ∙ ap (λ c. line_bytes k l ++ (told (settled k e c).event ++ events (settled k e c).reader (join ls rest))) (means-sound k l z)
          ∙ ap (λ x. line_bytes k l ++ x)
          (ap₂ (λ x r. x ++ events r (join ls rest)) (closing-told k e l) (settled-sound k e l z)
          ∙ ap (λ x. closing k e l ++ x) (tells-lines (after k l) (noted k l e) ls rest gs h)))
      | no n ↦
          let w = refuses (line_rules k l) n in
          rw (given-refused (line_rules k l) (closing k e l ++ tells (after k l) (noted k l e) ls rest) w)
          (events-ended k e l (join ls rest) g
          ∙ ap (λ c. line_bytes k l ++ (told (settled k e c).event ++ events (settled k e c).reader (join ls rest))) (means-fault k l w)
          ∙ ap (λ x. line_bytes k l ++ x) (fault-told k e w.refusal (join ls rest)))
    ]

-- fed a file, the machine hands out what the file says
pub hands_out : (f : List ℕ) → events start f ≡ tells 0 start.numbers (cut f).lines (cut f).rest
hands_out f =
    let w = cut-is f in
    ap (events start) (sym w.is) ∙ tells-lines 0 start.numbers (cut f).lines (cut f).rest w.free w.last
