-- The second pass: the marks of spoiled exercises. A good block right after a bad one is the nearest good block after it, so one flag, whether the block before is bad,
-- is all that the loop carries. Rests on Judging.
use Rattle.std.specs.Prelude.{◌≡◌, refl, Bool, true, false, not, List, [], ◌∷◌, ℕ, zero, suc, ◌+◌, ◌/◌, ◌<◌, ◌≤◌, eqb, leb, length, get_or, drop, set, replicate}
use Rattle.std.proofs.Common.{sym, ap, ◌∙◌, arith, length-set, drop_of_length-le, get_or-set_same, get_or-set_other, eq-eqb, ne_eqb}
use Rattle.std.proofs.Math.Decide.{ℕ_discrete}
use Rattle.ground.specs.Pick.{pick, both}
use Rattle.blocks.specs.declared.Head.{Head}
use Rattle.blocks.specs.Block.{head_of, block_at, IsBlock}
use Rattle.blocks.specs.Turn.{either, start}
use Rattle.books.specs.Book.{whole}
use Rattle.books.specs.Salvage.{Judged, blocks_of, is_of, first_good, spoiled, spoils, length-judged}
use Rattle.salvage.specs.Judging.{faults_of, block-judged}

-- exercise e has its mark
abbrev pub seen : List ℕ → ℕ → Bool
seen m e = eqb (get_or m e 0) 1

-- t has the marks of m and the new ones
pub record Marks (m : List ℕ) (new : ℕ → Bool) (t : List ℕ) : Type 0 where
  pub long : length t ≡ length m
  pub at : (e : ℕ) → seen t e ≡ either (new e) (seen m e)

-- what a block spoils: a good one that follows a bad one its own exercise; a bad one that of the nearest good block before, and listed 43 its own
abbrev pub spoils_here : ℕ → Head → Head → Bool → ℕ → Bool
spoils_here number h before pending e =
    pick (eqb number 0) (both pending (is_of e h)) (either (is_of e before) (both (eqb number 43) (eqb h.exercise e)))

-- every exercise that is spoiled has its mark, and no other
pub record Spoilt (s m : List ℕ) : Type 0 where
  pub long : length m ≡ 65536
  pub at : (e : ℕ) → seen m e ≡ spoils s e

-- what the second pass asks: the faults in the list, and no marks yet
pub record MarkAsks (m s list : List ℕ) : Type 0 where
  pub is : whole s ≡ true
  pub holds : list ≡ faults_of s
  pub long : length m ≡ 65536
  pub clean : (e : ℕ) → seen m e ≡ false

-- a table of zeros has no mark
pub no-marks : (n e : ℕ) → seen (replicate n 0) e ≡ false
no-marks n e = ap (λ v. eqb v 1) (zero-at n e)
  where
    zero-at : (m k : ℕ) → get_or {A = ℕ} (replicate m 0) k 0 ≡ 0
    zero-at zero k = refl
    zero-at (suc m) zero = refl
    zero-at (suc m) (suc k) = zero-at m k

-- ---- one mark

marks-same : (o : Bool) (v w : ℕ) → v ≡ pick o 1 w → eqb v 1 ≡ either (both o true) (eqb w 1)
marks-same true v w e = rw e
marks-same false v w e = rw e

marks-not : (o : Bool) (b : Bool) → b ≡ either (both o false) b
marks-not true b = refl
marks-not false b = refl

pub marks-one : (m : List ℕ) (x v : ℕ) (o : Bool) → x < length m → v ≡ pick o 1 (get_or m x 0) → Marks m (λ e. both o (eqb x e)) (set m x v)
marks-one m x v o l e =
    record {
      long = length-set m x v;
      at = λ y.
          elim (ℕ_discrete x y) [
            | yes i ↦
                let here : get_or (set m x v) y 0 ≡ v = ap (λ z. get_or (set m x v) z 0) (sym i) ∙ get_or-set_same m x v 0 l in
                rw (here, eq-eqb x y i) (marks-same o v (get_or m y 0) (e ∙ ap (λ z. pick o 1 (get_or m z 0)) i))
            | no i ↦ rw (get_or-set_other m x y v 0 (λ z. i (sym z)), ne_eqb x y i) (marks-not o (seen m y))
          ];
    }

-- ---- the marks of one block

both-assoc : (a b c : Bool) → both (both a b) c ≡ both a (both b c)
both-assoc true b c = refl
both-assoc false b c = refl

either-assoc : (a b c : Bool) → either a (either b c) ≡ either (either a b) c
either-assoc true b c = refl
either-assoc false b c = refl

pub marks_block : {m t u : List ℕ} {o d : Bool} (number : ℕ) (h before : Head) (pending : Bool) → o ≡ pick (eqb number 0) (both pending (leb 1 h.kind)) (eqb number 43)
    → d ≡ pick (eqb number 0) false (leb 1 before.kind) → Marks m (λ e. both o (eqb h.exercise e)) t → Marks t (λ e. both d (eqb before.exercise e)) u
    → Marks m (spoils_here number h before pending) u
marks_block {m} {t} {u} {o} {d} number h before pending eo ed a b =
    record { long = b.long ∙ a.long; at = λ e. b.at e ∙ ap (λ x. either (both d (eqb before.exercise e)) x) (a.at e) ∙ by (eqb number 0) eo ed e }
  where
    by : (g : Bool) → o ≡ pick g (both pending (leb 1 h.kind)) (eqb number 43) → d ≡ pick g false (leb 1 before.kind) → (e : ℕ)
        → either (both d (eqb before.exercise e)) (either (both o (eqb h.exercise e)) (seen m e))
        ≡ either (pick g (both pending (is_of e h)) (either (is_of e before) (both (eqb number 43) (eqb h.exercise e)))) (seen m e)
    by true eo ed e = rw (eo, ed, both-assoc pending (leb 1 h.kind) (eqb h.exercise e))
    by false eo ed e = rw (eo, ed) (either-assoc (both (leb 1 before.kind) (eqb before.exercise e)) (both (eqb number 43) (eqb h.exercise e)) (seen m e))

-- ---- what the blocks from one on spoil

unfoldable pub spoiled_from : ℕ → Head → Bool → List Judged → Bool
spoiled_from e before pending [] = false
spoiled_from e before pending (j ∷ js) =
    either (spoils_here j.number j.part.head before pending e)
    (spoiled_from e (pick (eqb j.number 0) j.part.head before) (not (eqb j.number 0)) js)

shuffle : (p B O F S : Bool) → either B (either O (either F S)) ≡ either (both p F) (either B (either F (either O S)))
shuffle true true true true true = refl
shuffle true true true true false = refl
shuffle true true true false true = refl
shuffle true true true false false = refl
shuffle true true false true true = refl
shuffle true true false true false = refl
shuffle true true false false true = refl
shuffle true true false false false = refl
shuffle true false true true true = refl
shuffle true false true true false = refl
shuffle true false true false true = refl
shuffle true false true false false = refl
shuffle true false false true true = refl
shuffle true false false true false = refl
shuffle true false false false true = refl
shuffle true false false false false = refl
shuffle false true true true true = refl
shuffle false true true true false = refl
shuffle false true true false true = refl
shuffle false true true false false = refl
shuffle false true false true true = refl
shuffle false true false true false = refl
shuffle false true false false true = refl
shuffle false true false false false = refl
shuffle false false true true true = refl
shuffle false false true true false = refl
shuffle false false true false true = refl
shuffle false false true false false = refl
shuffle false false false true true = refl
shuffle false false false true false = refl
shuffle false false false false true = refl
shuffle false false false false false = refl

either-nothing : (p : Bool) → either (both p false) false ≡ false
either-nothing true = refl
either-nothing false = refl

spoiled-from : (e : ℕ) (before : Head) (pending : Bool) (js : List Judged) → spoiled_from e before pending js ≡ either (both pending (is_of e (first_good js))) (spoiled e before js)
unfolding spoiled_from spoiled
spoiled-from e before pending [] = sym (either-nothing pending)
spoiled-from e before pending (j ∷ js) = by (eqb j.number 0) refl (spoiled-from e j.part.head false js) (spoiled-from e before true js)
  where
    by : (g : Bool) → eqb j.number 0 ≡ g → spoiled_from e j.part.head false js ≡ spoiled e j.part.head js
        → spoiled_from e before true js ≡ either (is_of e (first_good js)) (spoiled e before js)
        → spoiled_from e before pending (j ∷ js) ≡ either (both pending (is_of e (first_good (j ∷ js)))) (spoiled e before (j ∷ js))
    by true g a b = rw (g, a)
    by false g a b =
        let own = both (eqb j.number 43) (eqb j.part.head.exercise e) in
        rw (g, b, ← either-assoc (is_of e before) own (either (is_of e (first_good js)) (spoiled e before js))) (shuffle pending (is_of e before) own (is_of e (first_good js)) (spoiled e before js))

-- ---- the loop: what is marked so far, and what the blocks from b on spoil, is all that is spoiled

pub record Marking (s m : List ℕ) (n b : ℕ) (before : Head) (pending : Bool) : Type 0 where
  pub upto : b ≤ n
  pub long : length m ≡ 65536
  pub at : (e : ℕ) → either (seen m e) (spoiled_from e before pending (drop b (blocks_of s))) ≡ spoils s e

pub marking-none : {m s list : List ℕ} {n : ℕ} → MarkAsks m s list → Marking s m n 0 start false
marking-none {m} {s} a = record { upto = omega arith; long = a.long; at = λ e. rw (a.clean e) (spoiled-from e start false (blocks_of s)) }

swap : (a b c : Bool) → either (either a b) c ≡ either b (either a c)
swap true true c = refl
swap true false c = refl
swap false b c = refl

pub marking-next : {s list m t x : List ℕ} {n b f : ℕ} {before h next : Head} {pending : Bool} → Marking s m n b before pending → b < n → n ≡ length s / 512
    → list ≡ faults_of s → f ≡ get_or list b 0 → IsBlock s b x → h ≡ head_of x → Marks m (spoils_here f h before pending) t → next ≡ pick (eqb f 0) h before
    → Marking s t n (b + 1) next (not (eqb f 0))
unfolding spoiled_from
marking-next {s} {list} {m} {t} {x} {n} {b} {f} {before} {h} {next} {pending} g l en el ef i hx marks next-is =
    let f-is : get_or (faults_of s) b 0 ≡ f = sym (ef ∙ ap (λ y. get_or y b 0) el) in
    let h-is : head_of (block_at b s) ≡ h = sym (hx ∙ ap head_of i.is) in
    record {
      upto = omega arith;
      long = marks.long ∙ g.long;
      at = λ e.
          let rest = spoiled_from e next (not (eqb f 0)) (drop (b + 1) (blocks_of s)) in
          let step : spoiled_from e before pending (drop b (blocks_of s)) ≡ either (spoils_here f h before pending e) rest
          = ap (spoiled_from e before pending) (block-judged s b (omega arith)) ∙ rw (f-is, h-is, ← next-is) in
          ap (λ y. either y rest) (marks.at e) ∙ swap (spoils_here f h before pending e) (seen m e) rest ∙ ap (λ y. either (seen m e) y) (sym step) ∙ g.at e;
    }

either-none : (a : Bool) → a ≡ either a false
either-none true = refl
either-none false = refl

pub marking-end : {s m : List ℕ} {n b : ℕ} {before : Head} {pending : Bool} → Marking s m n b before pending → n ≤ b → n ≡ length s / 512 → Spoilt s m
unfolding spoiled_from
marking-end {s} {m} {n} {b} {before} {pending} g l en =
    let none : drop b (blocks_of s) ≡ [] = drop_of_length-le (blocks_of s) {i = b} (omega (arith, length-judged (length s / 512) 1 start s)) in
    record { long = g.long; at = λ e. either-none (seen m e) ∙ ap (λ js. either (seen m e) (spoiled_from e before pending js)) (sym none) ∙ g.at e }
