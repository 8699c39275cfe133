-- No second outcome meets the promise of key generation: the answer and the key are fixed by the set, the streams and the buffer that was lent.
-- The same of what it calls: the tables, the elements, the spare half. Rests on ground's Outcome, tables' Filled and packing's elements.
use Rattle.std.specs.Prelude.{◌≡◌, refl, List, ℕ, ◌*◌, ◌%◌, length}
use Rattle.std.proofs.Common.{sym, ap, ◌∙◌, arith}
use Rattle.std.proofs.Math.Decide.{dec_lt}
use Rattle.ground.specs.Outcome.{unique-writes}
use Rattle.ground.specs.Answers.{Answer}
use Rattle.packing.specs.Packing.{element, Bytes}
use Rattle.packing.proofs.Laws.{element-ext}
use Rattle.packing.proofs.Written.{written-unique}
use Rattle.sets.specs.declared.Set.{Set}
use Rattle.sets.specs.Sets.{key_count, key_bytes}
use Rattle.scheme.specs.Streams.{T12}
use Rattle.tables.specs.Table.{Holds, Filled, filled-unique}
use Rattle.keys.specs.Generates.{Generates}
use Rattle.keys.specs.Parts.{blocks, wide_blocks, f21_of, p22_of}
use Rattle.keys.specs.Elements.{WritesKey, Spare}

pub unique-generate : (set : Set) (public private : List ℕ) {before : List ℕ} {r r' : Answer} {after after' : List ℕ}
    → Generates set public private before r after → Generates set public private before r' after' → (r ≡ r') × (after ≡ after')
unique-generate set public private a b = unique-writes a b

-- ---- the functions for our own crate

pub unique-f21-table : (set : Set) (public t : List ℕ) (i : ℕ) {before after after' : List ℕ}
    → Filled set.l (set.v * set.l) set.o set.v (f21_of set public (blocks set t) i) before after
    → Filled set.l (set.v * set.l) set.o set.v (f21_of set public (blocks set t) i) before after' → after ≡ after'
unique-f21-table set public t i = filled-unique refl

pub unique-p22-table : (set : Set) (public t f : List ℕ) (i : ℕ) {before after after' : List ℕ}
    → Filled set.l (set.o * set.l) set.o set.o (p22_of set public (blocks set t) (wide_blocks set f) i) before after
    → Filled set.l (set.o * set.l) set.o set.o (p22_of set public (blocks set t) (wide_blocks set f) i) before after' → after ≡ after'
unique-p22-table set public t f i = filled-unique refl

-- the key, where the table holds T12; what the room for F21 and P22 holds afterwards is not promised
pub unique-write-elements : (set : Set) (public private t : List ℕ) {before after after' : List ℕ} → Holds set.l (set.o * set.l) set.v set.o t (T12 set private)
    → Bytes after → Bytes after' → WritesKey set public t before after → WritesKey set public t before after' → after ≡ after'
unique-write-elements set public private t table b b' p q = written-unique b b' (p.elements private table) (q.elements private table)

pub unique-clear-spare : (set : Set) {before after after' : List ℕ} → length before ≡ key_bytes set → Bytes after → Bytes after'
    → Spare set before after → Spare set before after' → after ≡ after'
unfolding key_bytes
unique-clear-spare set {before} {after} {after'} long b b' p q =
    element-ext after after' b b' (p.long ∙ sym q.long)
    (λ e h.
    elim (dec_lt e (key_count set)) [
      | yes l ↦ p.kept e l ∙ sym (q.kept e l)
      | no l ↦
          let last : e ≡ key_count set = omega (arith, p.long) in
          let odd : key_count set % 2 ≡ 1 = omega (arith, p.long) in
          ap (element after) last ∙ p.spare odd ∙ sym (ap (element after') last ∙ q.spare odd)
    ])
