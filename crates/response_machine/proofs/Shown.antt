-- What the program writes: the text of what `feed` answers, part by part, and at the end that of a refusal there, is what `printed` of response_format says.
-- Rests on Events and Reading.
use Rattle.std.specs.Prelude.{◌≡◌, refl, Bool, true, false, List, [], ◌∷◌, ◌++◌, map, ℕ, ◌+◌, eqb, ltb, drop, Option, Some, None}
use Rattle.std.proofs.Common.{sym, ap, ap₂, ◌∙◌, append-nil, append_assoc, eq-eqb, ne_eqb}
use Rattle.std.proofs.Math.Decide.{ℕ_discrete}
use Rattle.ground.specs.Pick.{pick, both}
use Rattle.ground.specs.Answers.{code}
use Rattle.response_format.specs.Given.{given-met, refuses, given-refused}
use Rattle.ground.specs.declared.Refusal.{Refusal}
use Rattle.response_format.specs.Fields.{label, is_number}
use Rattle.response_format.specs.Rules.{begins, value_in, line_rules, fault, after, refusal, cut}
use Rattle.response_format.specs.Tells.{decoded, value_bytes, field_bytes, line_bytes, closing, noted, tells, no_numbers}
use Rattle.response_format.specs.Text.{event_text, text_of, refused_text, end_text, printed, printed_of}
use Rattle.response_format.specs.Format.{Free, AllFree, all_none, all_more, join}
use Rattle.response_format.specs.Cuts.{cut-is}
use Rattle.response_machine.specs.Machine.{state, settled, stepped, telling, stop, feeds, start, is_stopped}
use Rattle.response_machine.specs.Within.{within}
use Rattle.response_machine.specs.Reads.{fed}
use Rattle.response_machine.proofs.Reading.{drop-next, fed-line, fed-ended, fed-stopped, settled-sound, means-sound, means-fault, ended-rest, rest-going}
use Rattle.response_machine.specs.Events.{told, events}
use Rattle.response_machine.proofs.Events.{events-append, tells-lines}
use Rattle.response_machine.specs.declared.Line.TheVariants.{Empty}
use Rattle.response_machine.specs.declared.Closed.TheVariants.{Fault}
use Rattle.response_machine.specs.declared.Reader.{Reader}
use Rattle.response_format.specs.declared.Numbers.{Numbers}
use Rattle.response_format.specs.declared.Event.{Event}
use Rattle.response_format.specs.declared.Event.TheVariants as event
use Rattle.response_machine.specs.Shown.{closing_text, part_text, written}

-- ---- the text of events

text-append : (vs ws : List Event) → text_of (vs ++ ws) ≡ text_of vs ++ text_of ws
unfolding text_of
text-append [] ws = refl
text-append (v ∷ vs) ws = ap (λ x. event_text v ++ x) (text-append vs ws) ∙ sym (append_assoc (event_text v) (text_of vs) (text_of ws))

text-told : (v : Event) → text_of (told (Some v)) ≡ event_text v
unfolding text_of told event_text
text-told (event.Byte k b) = refl
text-told (event.Number k n) = refl
text-told (event.Ended k) = refl
text-told (event.Entry e) = append-nil (event_text (event.Entry e))
text-told (event.Refused r) = append-nil (event_text (event.Refused r))

part-told : (v : Option Event) → text_of (told v) ≡ part_text v
unfolding text_of told part_text
part-told None = refl
part-told (Some v) = text-told v

-- an event that does not tell has no text
text-quiet : (v : Option Event) → telling v ≡ false → part_text v ≡ []
unfolding telling part_text event_text
text-quiet None t = refl
text-quiet (Some (event.Byte k b)) t = refl
text-quiet (Some (event.Number k n)) t = refl
text-quiet (Some (event.Ended k)) t = refl
text-quiet (Some (event.Entry e)) t = cc
text-quiet (Some (event.Refused r)) t = cc

-- however the reads cut the file
pub written-cut : (r : Reader) (p q : List ℕ) → written r (p ++ q) ≡ written r p ++ written (fed r p) q
unfolding written
written-cut r p q = ap text_of (events-append r p q) ∙ text-append (events r p) (events (fed r p) q)

written_byte : (r : Reader) (b : ℕ) (p : List ℕ) → written r (b ∷ p) ≡ part_text (stepped r b).event ++ written (stepped r b).reader p
unfolding written events
written_byte r b p =
    text-append (told (stepped r b).event) (events (stepped r b).reader p)
    ∙ ap (λ x. x ++ written (stepped r b).reader p) (part-told (stepped r b).event)

-- `feed` answers the events with a text one by one: the text of its event, nothing where there is none, and then what the rest of the piece gives
pub written-feed : (r : Reader) (i : ℕ) (p q : List ℕ) → drop i q ≡ p
    → written r p ≡ part_text (feeds r i p).event ++ written (feeds r i p).reader (drop (feeds r i p).at q)
unfolding feeds part_text
written-feed r i [] q e = ap (written r) (sym e)
written-feed r i (b ∷ p) q e =
    written_byte r b p ∙ by (telling (stepped r b).event) refl (written-feed (stepped r b).reader (i + 1) p q (drop-next i q b p e))
  where
    after-byte : Reader
    after-byte = (stepped r b).reader

    here : Option Event
    here = (stepped r b).event

    by : (t : Bool) → telling here ≡ t
        → written after-byte p ≡ part_text (feeds after-byte (i + 1) p).event ++ written (feeds after-byte (i + 1) p).reader (drop (feeds after-byte (i + 1) p).at q)
        → part_text here ++ written after-byte p
        ≡ part_text (pick t (stop after-byte here (i + 1)) (feeds after-byte (i + 1) p)).event
        ++ written (pick t (stop after-byte here (i + 1)) (feeds after-byte (i + 1) p)).reader (drop (pick t (stop after-byte here (i + 1)) (feeds after-byte (i + 1) p)).at q)
    by true t h = ap (λ x. part_text here ++ written after-byte x) (sym (drop-next i q b p e))
    by false t h = ap (λ x. x ++ written after-byte p) (text-quiet here t) ∙ h

-- written-feed in the words of `events`, by the list of what is told: for those outside who cite it, since nothing here does
pub written-told : (r : Reader) (i : ℕ) (p q : List ℕ) → drop i q ≡ p
    → written r p ≡ text_of (told (feeds r i p).event) ++ written (feeds r i p).reader (drop (feeds r i p).at q)
written-told r i p q e =
    written-feed r i p q e ∙ ap (λ x. x ++ written (feeds r i p).reader (drop (feeds r i p).at q)) (sym (part-told (feeds r i p).event))

-- ---- the text of a file

text-bytes : (k : ℕ) (v : List ℕ) → text_of (map (λ x. event.Byte k x) v) ≡ []
unfolding text_of event_text
text-bytes k [] = refl
text-bytes k (b ∷ v) = text-bytes k v

text-line : (k : ℕ) (l : List ℕ) → text_of (line_bytes k l) ≡ []
unfolding line_bytes field_bytes value_bytes text_of
text-line k [] = refl
text-line k (b ∷ l) = by (eqb b 35) (both (ltb k 8) (begins (label k) (b ∷ l))) (is_number k)
  where
    by : (c f n : Bool) → text_of (pick c [] (pick f (pick n [] (map (λ x. event.Byte k x) (decoded (value_in k (b ∷ l))))) [])) ≡ []
    by true f n = refl
    by false true true = refl
    by false true false = text-bytes k (decoded (value_in k (b ∷ l)))
    by false false n = refl

text-tells : (k : ℕ) (e : Numbers) (l : List ℕ) (vs : List Event) → text_of (line_bytes k l ++ vs) ≡ text_of vs
text-tells k e l vs = text-append (line_bytes k l) vs ∙ ap (λ x. x ++ text_of vs) (text-line k l)

stopped-closing : (k : ℕ) (e : Numbers) (r : Refusal) (f : List ℕ) → closing_text (fed (settled k e (Fault r)).reader f) ≡ []
unfolding closing_text settled is_stopped
stopped-closing k e r f = ap closing_text (fed-stopped k e r f)

rest-closing : (k : ℕ) (e : Numbers) (rest : List ℕ) → closing_text (state k e (within k Empty rest)) ≡ end_text (refusal k [] rest)
unfolding closing_text
rest-closing k e rest = rw (rest-going k rest) (ap end_text (ended-rest k rest))

refused-text : (r : Refusal) → text_of (event.Refused r ∷ []) ≡ refused_text (code r)
unfolding text_of event_text
refused-text r = append-nil (refused_text (code r))

shown-lines : (k : ℕ) (e : Numbers) (ls : List (List ℕ)) (rest : List ℕ) → AllFree ls → Free rest
    → text_of (tells k e ls rest) ++ closing_text (fed (state k e Empty) (join ls rest)) ≡ printed k e ls rest
unfolding tells join printed fed
shown-lines k e [] rest all_none h =
    ap₂ (λ x r. x ++ closing_text r) (text-line k rest) (ap (fed (state k e Empty)) (sym (append-nil rest)) ∙ fed-line k e Empty rest [] h) ∙ rest-closing k e rest
shown-lines k e (l ∷ ls) rest (all_more g gs) h =
    let ended = fed-ended k e l (join ls rest) g in
    elim (ℕ_discrete (fault k l) 0) [
      | yes z ↦
          rw (given-met (line_rules k l) (closing k e l ++ tells (after k l) (noted k l e) ls rest) z, eq-eqb (fault k l) 0 z)
          (ap₂ (λ x r. x ++ closing_text r)
          (text-tells k e l (closing k e l ++ tells (after k l) (noted k l e) ls rest) ∙ text-append (closing k e l) (tells (after k l) (noted k l e) ls rest))
          (ended ∙ ap (λ r. fed r (join ls rest)) (ap (λ c. (settled k e c).reader) (means-sound k l z) ∙ settled-sound k e l z))
          ∙ append_assoc (text_of (closing k e l)) (text_of (tells (after k l) (noted k l e) ls rest)) _
          ∙ ap (λ x. text_of (closing k e l) ++ x) (shown-lines (after k l) (noted k l e) ls rest gs h))
      | no n ↦
          let w = refuses (line_rules k l) n in
          rw (given-refused (line_rules k l) (closing k e l ++ tells (after k l) (noted k l e) ls rest) w, ne_eqb (fault k l) 0 n)
          (ap₂ (λ x y. x ++ y)
          (text-tells k e l (event.Refused w.refusal ∷ []) ∙ refused-text w.refusal)
          (ap closing_text (ended ∙ ap (λ c. fed (settled k e c).reader (join ls rest)) (means-fault k l w)) ∙ stopped-closing k e w.refusal (join ls rest))
          ∙ append-nil (refused_text (code w.refusal))
          ∙ ap refused_text w.number)
    ]

-- what is written of a whole file, and at its end, is what is to be printed of it
pub shows : (f : List ℕ) → written start f ++ closing_text (fed start f) ≡ printed_of f
unfolding written
shows f =
    let w = cut-is f in
    ap (λ g. written start g ++ closing_text (fed start g)) (sym w.is)
    ∙ ap (λ vs. text_of vs ++ closing_text (fed start (join (cut f).lines (cut f).rest))) (tells-lines 0 no_numbers (cut f).lines (cut f).rest w.free w.last)
    ∙ shown-lines 0 no_numbers (cut f).lines (cut f).rest w.free w.last
