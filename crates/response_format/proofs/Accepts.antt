-- Exactly the files of the format have no refusal.
-- Rests on Format, Rules, Labels and Cuts.
use Rattle.std.specs.Prelude.{◌≡◌, refl, Bool, true, false, ◌↔◌, List, [], ◌∷◌, ◌++◌, ℕ, ◌+◌, ◌<◌, ltb, leb, length, drop, get_or}
use Rattle.std.proofs.Common.{sym, ap, subst, ◌∙◌, inl, inr, arith, length-append, eq-eqb, ne_eqb, eqb-true, lt-ltb, ltb-true, le-leb, leb-true}
use Rattle.std.proofs.Math.Decide.{ℕ_discrete}
use Rattle.std.proofs.Math.ListN.{get_or-append}
use Rattle.std.proofs.Math.Seq.{drop-append_seam}
use Rattle.ground.specs.Pick.{pick, both, both_left, both_right, both_true}
use Rattle.ground.specs.Answers.{first}
use Rattle.ground.specs.First.{first_passes}
use Rattle.ground.specs.declared.Refusal.TheVariants.{BadLine, FieldOutOfOrder, NotADigit, NumberTooLarge, OddDigits}
use Rattle.response_format.specs.Fields.{digit_of, numeral, label, is_number}
use Rattle.response_format.specs.Rules.{begins, separated, all_digits, some, paired, value_rules, field_rules, whole, line_rules, fault, after, refusal, refusal_of, begun, cut}
use Rattle.response_format.specs.Format.{Digits, none, more, Value, number, bytes, Ends, Lines, end, empty, comment, field, Free, free-none, free_more, AllFree, all_none, all_more, join, Format}
use Rattle.response_format.proofs.Labels.{label-long, label-first, label-separated, begins-all, begins-split}
use Rattle.response_format.specs.Cuts.{cut-is}
use Rattle.response_format.specs.Decode.{paired-even}

-- ---- digits and values

digits-all : (n : ℕ) (v : List ℕ) → Digits n v → all_digits n v ≡ true
unfolding all_digits
digits-all n [] none = refl
digits-all n (b ∷ v) (more h d) = both_true (lt-ltb _ _ h) (digits-all n v d)

all_digits_lem : (n : ℕ) (v : List ℕ) → all_digits n v ≡ true → Digits n v
unfolding all_digits
all_digits_lem n [] t = none
all_digits_lem n (b ∷ v) t = more (ltb-true _ _ (both_left (ltb (digit_of b) n) (all_digits n v) t)) (all_digits_lem n v (both_right (ltb (digit_of b) n) (all_digits n v) t))

some-long : (v : List ℕ) → some v ≡ true → 0 < length v
unfolding some
some-long [] t = let z : ◌≡◌ {A = ℕ} 0 1 = cc in omega arith
some-long (b ∷ v) t = omega arith

long-some : (v : List ℕ) → 0 < length v → some v ≡ true
unfolding some
long-some [] h = absurd (omega arith)
long-some (b ∷ v) h = refl

value-sound : (k : ℕ) (v : List ℕ) → Value k v → first (value_rules k v) ≡ 0
unfolding first
value-sound k v (number i l d m) = rw (i, both_true (long-some v l) (digits-all 10 v d), le-leb _ _ m)
value-sound k v (bytes i d p) = rw (i, digits-all 16 v d, paired-even v ∙ eq-eqb _ _ p)

sound-value : (k : ℕ) (v : List ℕ) → first (value_rules k v) ≡ 0 → Value k v
sound-value k v z = by (is_number k) refl
  where
    by : (t : Bool) → is_number k ≡ t → Value k v
    by true i =
        let (a, p) = first_passes NotADigit (both (some v) (all_digits 10 v)) _ (rw i at z) in
        let (c, q) = first_passes NumberTooLarge (leb (numeral 0 v) 4294967295) _ p in
        number i (some-long v (both_left (some v) (all_digits 10 v) a)) (all_digits_lem 10 v (both_right (some v) (all_digits 10 v) a)) (leb-true _ _ c)
    by false i =
        let (a, p) = first_passes NotADigit (all_digits 16 v) _ (rw i at z) in
        let (c, q) = first_passes OddDigits (paired v) _ p in
        bytes i (all_digits_lem 16 v a) (eqb-true _ _ (sym (paired-even v) ∙ c))

-- ---- a field's line

-- a line of field k, the label and a value, has the value's rules
field-rules : (k : ℕ) (v : List ℕ) → k < 8 → first (field_rules k (label k ++ v)) ≡ first (value_rules k v)
unfolding field_rules first
field-rules k v due = rw (label-separated k due v, lt-ltb k 8 due, begins-all (label k) v, drop-append_seam (label k) v)

label-get_or : (k : ℕ) (v : List ℕ) → k < 8 → get_or (label k ++ v) 0 35 ≡ get_or (label k) 0 35
label-get_or k v due = get_or-append (label k) v 35 0 (let long = label-long k due in omega arith)

-- a line that begins with a label is no comment and not empty
field-line : (k : ℕ) (l v : List ℕ) → k < 8 → l ≡ label k ++ v → (fault k l ≡ first (field_rules k l)) × (after k l ≡ k + 1)
unfolding line_rules after
field-line k [] v due e = let long = label-long k due in absurd (omega (arith, simp length-append at (ap length e)))
field-line k (b ∷ l) v due e =
    let n : b ≡ 35 → ⊥ = λ i. label-first k due (sym (label-get_or k v due) ∙ ap (λ m. get_or m 0 35) (sym e) ∙ i) in
    rw (ne_eqb b 35 n) (refl, refl)

field-sound : (k : ℕ) (l v : List ℕ) → k < 8 → l ≡ label k ++ v → Value k v → fault k l ≡ 0
field-sound k l v due e w = (field-line k l v due e).0 ∙ ap (λ m. first (field_rules k m)) e ∙ field-rules k v due ∙ value-sound k v w

record Due (k : ℕ) (l : List ℕ) : Type 0 where
  due : k < 8
  is : l ≡ label k ++ drop (length (label k)) l
  value : Value k (drop (length (label k)) l)

sound-field : (k : ℕ) (l : List ℕ) → first (field_rules k l) ≡ 0 → Due k l
unfolding field_rules
sound-field k l z =
    let (a, p) = first_passes BadLine (separated l) _ z in
    let (c, q) = first_passes FieldOutOfOrder (both (ltb k 8) (begins (label k) l)) _ p in
    record {
      due = ltb-true k 8 (both_left (ltb k 8) (begins (label k) l) c);
      is = begins-split (label k) l (both_right (ltb k 8) (begins (label k) l) c);
      value = sound-value k (drop (length (label k)) l) q;
    }

-- ---- lines

ends-whole : (k : ℕ) → Ends k → whole k ≡ true
unfolding whole
ends-whole k (inl e) = rw (eq-eqb k 0 e)
ends-whole k (inr e) = elim (ℕ_discrete k 0) [ yes z ↦ rw (eq-eqb k 0 z) | no n ↦ rw (ne_eqb k 0 n, eq-eqb k 8 e) ]

whole-ends : (k : ℕ) → whole k ≡ true → Ends k
unfolding whole
whole-ends k t = elim (ℕ_discrete k 0) [ yes z ↦ inl z | no n ↦ inr (eqb-true k 8 (rw (ne_eqb k 0 n) at t)) ]

stops : (k : ℕ) (l : List ℕ) (ls : List (List ℕ)) (rest : List ℕ) → (fault k l ≡ 0 → ⊥) → refusal k (l ∷ ls) rest ≡ fault k l
unfolding refusal
stops k l ls rest n = rw (ne_eqb (fault k l) 0 n)

picked : (t : Bool) → ◌≡◌ {A = ℕ} (pick t 0 33) 0 → t ≡ true
picked true z = refl
picked false z = absurd (omega arith)

goes_on : (k : ℕ) (l : List ℕ) (ls : List (List ℕ)) (rest : List ℕ) → fault k l ≡ 0 → refusal k (l ∷ ls) rest ≡ refusal (after k l) ls rest
unfolding refusal
goes_on k l ls rest z = rw (eq-eqb (fault k l) 0 z)

empty-sound : (k : ℕ) → Ends k → (fault k [] ≡ 0) × (after k [] ≡ 0)
unfolding line_rules after first
empty-sound k h = (rw (ends-whole k h), refl)

comment-sound : (k : ℕ) (l : List ℕ) → (fault k (35 ∷ l) ≡ 0) × (after k (35 ∷ l) ≡ k)
unfolding line_rules after first
comment-sound k l = (refl, refl)

end-sound : (k : ℕ) → Ends k → refusal k [] [] ≡ 0
unfolding refusal
end-sound k h = rw (ends-whole k h)

lines-sound : {k : ℕ} {ls : List (List ℕ)} → Lines k ls → refusal k ls [] ≡ 0
lines-sound {k = k} (end h) = end-sound k h
lines-sound {k = k} (empty {ls = ls} h w) =
    let s = empty-sound k h in goes_on k [] ls [] s.0 ∙ ap (λ j. refusal j ls []) s.1 ∙ lines-sound w
lines-sound {k = k} (comment {l = l} {ls = ls} w) =
    let s = comment-sound k l in goes_on k (35 ∷ l) ls [] s.0 ∙ ap (λ j. refusal j ls []) s.1 ∙ lines-sound w
lines-sound {k = k} (field {l = l} {v = v} {ls = ls} due e u w) =
    goes_on k l ls [] (field-sound k l v due e u) ∙ ap (λ j. refusal j ls []) (field-line k l v due e).1 ∙ lines-sound w

refusal-first : (k : ℕ) (l : List ℕ) (ls : List (List ℕ)) (rest : List ℕ) → refusal k (l ∷ ls) rest ≡ 0 → (fault k l ≡ 0) × (refusal (after k l) ls rest ≡ 0)
refusal-first k l ls rest z = elim (ℕ_discrete (fault k l) 0) [ yes i ↦ (i, sym (goes_on k l ls rest i) ∙ z) | no n ↦ absurd (n (sym (stops k l ls rest n) ∙ z)) ]

end_whole : (k : ℕ) (rest : List ℕ) → refusal k [] rest ≡ 0 → (rest ≡ []) × Ends k
unfolding refusal
end_whole k [] z = (refl, whole-ends k (picked (whole k) z))
end_whole k (b ∷ rest) z = absurd (omega arith)

empty-ends : (k : ℕ) → fault k [] ≡ 0 → Ends k
unfolding line_rules
empty-ends k z = whole-ends k (first_passes FieldOutOfOrder (whole k) [] z).0

sound-lines : (k : ℕ) (ls : List (List ℕ)) (rest : List ℕ) → refusal k ls rest ≡ 0 → (rest ≡ []) × Lines k ls
unfolding after line_rules
sound-lines k [] rest z = let w = end_whole k rest z in (w.0, end w.1)
sound-lines k ([] ∷ ls) rest z =
    let p = refusal-first k [] ls rest z in
    let w = sound-lines 0 ls rest p.1 in
    (w.0, empty (empty-ends k p.0) w.1)
sound-lines k ((b ∷ l) ∷ ls) rest z =
    let p = refusal-first k (b ∷ l) ls rest z in
    elim (ℕ_discrete b 35) [
      | yes i ↦
          let w = sound-lines k ls rest (rw (eq-eqb b 35 i) at p.1) in
          (w.0, subst (λ x. Lines k ((x ∷ l) ∷ ls)) (sym i) (comment w.1))
      | no n ↦
          let d = sound-field k (b ∷ l) (rw (ne_eqb b 35 n) at p.0) in
          let w = sound-lines (k + 1) ls rest (rw (ne_eqb b 35 n) at p.1) in
          (w.0, field d.due d.is d.value w.1)
    ]

-- ---- files

-- lines whose join is cut come back, and what stands after them
cut_line : (l f : List ℕ) → Free l → cut (l ++ (10 ∷ f)) ≡ record { lines = l ∷ (cut f).lines; rest = (cut f).rest }
unfolding cut begun
cut_line [] f free-none = refl
cut_line (b ∷ l) f (free_more n h) = rw (ne_eqb b 10 n) (ap (λ c. begun b c.lines c.rest) (cut_line l f h))

cut-join : (ls : List (List ℕ)) → AllFree ls → cut (join ls []) ≡ record { lines = ls; rest = [] }
unfolding join cut
cut-join [] all_none = refl
cut-join (l ∷ ls) (all_more g gs) = cut_line l (join ls []) g ∙ ap (λ c. record { lines = l ∷ c.lines; rest = c.rest }) (cut-join ls gs)

-- a file has no refusal exactly where it is of the format
pub format-exactly : (f : List ℕ) → (refusal_of f ≡ 0) ↔ Format f
format-exactly f = (forth, back)
  where
    forth : refusal_of f ≡ 0 → Format f
    forth z =
        let c = cut-is f in
        let w = sound-lines 0 (cut f).lines (cut f).rest z in
        record { lines = (cut f).lines; free = c.free; is = sym c.is ∙ ap (join (cut f).lines) w.0; ordered = w.1 }

    back : Format f → refusal_of f ≡ 0
    back w = ap refusal_of w.is ∙ ap (λ c. refusal 0 c.lines c.rest) (cut-join w.lines w.free) ∙ lines-sound w.ordered
