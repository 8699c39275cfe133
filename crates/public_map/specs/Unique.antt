-- No second outcome meets a contract of this crate. Of the tables that it makes for itself every byte is fixed; what stands behind a table is not promised.
-- Rests on tables' blocks.
use Rattle.std.specs.Prelude.{◌≡◌, List, ℕ, ◌*◌, ◌/◌, ◌%◌, ◌<◌, get_or}
use Rattle.std.proofs.Common.{sym, ap, subst, ◌∙◌, mul-pos, div-add-mod', div-lt_iff_lt-mul, mod-lt, arith, ext_get_or}
use Rattle.std.proofs.Math.Decide.{dec_lt}
use Rattle.sets.specs.declared.Set.{Set}
use Rattle.sets.specs.Sets.{variables}
use Rattle.sets.specs.Bounds.{Bounds}
use Rattle.matrix.specs.Matrix.{Matrix}
use Rattle.matrix.specs.Same.{Same}
use Rattle.scheme.specs.Regroup.{power_sums}
use Rattle.scheme.specs.Entries.{by-entry}
use Rattle.rows.specs.Tile.{tile, entry-tile}
use Rattle.tables.specs.Table.{Holds}
use Rattle.tables.specs.Unpacked.{list_of}
use Rattle.terms.specs.FromSums.{HoldsSums}
use Rattle.public_map.specs.MapRows.{map_sum}
use Rattle.public_map.specs.MapSums.{PowersOf, SumsOf}
use Rattle.public_map.specs.Values.{Puts, MapValues}

-- ---- the values

unique-puts : {l count : ℕ} {M : ℕ → Matrix} {d t u : List ℕ} → 0 < l → Puts l count M d t → Puts l count M d u → t ≡ u
unique-puts {l} {count} {M} {d} {t} {u} some p q =
    ext_get_or 0 t u (p.long ∙ sym q.long)
    (λ k h.
    elim (dec_lt k (count * (l * l))) [
      | yes b ↦ by-entry l count (λ e. get_or t e 0 ≡ get_or u e 0) (λ i r c hi hr hc. p.entry i r c hi hr hc ∙ sym (q.entry i r c hi hr hc)) k b
      | no b ↦ p.behind k (omega arith) ∙ sym (q.behind k (omega arith))
    ])

positive : {set : Set} → Bounds set → 0 < set.l
positive b = omega (arith, b.limits.l-least)

-- whatever the matrices are
pub unique-put-values : {set : Set} → Bounds set → (M : ℕ → Matrix) {d t u : List ℕ} → Puts set.l set.o M d t → Puts set.l set.o M d u → t ≡ u
unique-put-values b M = unique-puts (positive b)

pub unique-evaluate : {set : Set} → Bounds set → (public abq key : List ℕ) (U : ℕ → Matrix) {d t u : List ℕ} → MapValues set public abq key U d t
    → MapValues set public abq key U d u → t ≡ u
unique-evaluate b public abq key U = unique-puts (positive b)

-- ---- the tables

-- the blocks of a table in rows of l·l bytes fix every byte of it
blocks-fix : {l a : ℕ} {M : ℕ → ℕ → Matrix} {t u : List ℕ} → 0 < l → Holds l (l * l) a l t M → Holds l (l * l) a l u M
    → (e : ℕ) → e < a * l * (l * l) → get_or t e 0 ≡ get_or u e 0
blocks-fix {l} {a} {M} {t} {u} p h k e inside =
    let square : 0 < l * l = mul-pos p p in
    let row : e / (l * l) < a * l = (div-lt_iff_lt-mul square).1 inside in
    let block : e / (l * l) / l < a = (div-lt_iff_lt-mul p).1 row in
    let column : e % (l * l) / l < l = (div-lt_iff_lt-mul p).1 (mod-lt e square) in
    let entry : (s : List ℕ) → Holds l (l * l) a l s M → get_or s e 0 ≡ M (e / (l * l) / l) (e % (l * l) / l) (e / (l * l) % l) (e % (l * l) % l) =
    λ s holds. ap (λ x. get_or s x 0) (sym (div-add-mod' e (l * l)))
    ∙ entry-tile l (l * l) s (e / (l * l)) (e % (l * l))
    ∙ (holds.same (e / (l * l) / l) (e % (l * l) / l) block column).at (e / (l * l) % l) (e % (l * l) % l) (mod-lt _ p) (mod-lt _ p) in
    entry t h ∙ sym (entry u k)

pub unique-map-rows : {set : Set} → Bounds set → (public key w : List ℕ) (i j : ℕ) {t u : List ℕ}
    → Holds set.l (set.l * set.l) 1 set.l t (λ z b. map_sum set public key w i j b)
    → Holds set.l (set.l * set.l) 1 set.l u (λ z b. map_sum set public key w i j b)
    → (e : ℕ) → e < set.l * (set.l * set.l) → get_or t e 0 ≡ get_or u e 0
unique-map-rows b public key w i j h k e inside = blocks-fix (positive b) h k e (omega arith)

pub unique-list-table : {set : Set} → Bounds set → (list : List ℕ) {t u : List ℕ} → PowersOf set t (list_of set.l list) → PowersOf set u (list_of set.l list)
    → (e : ℕ) → e < variables set * set.l * (set.l * set.l) → get_or t e 0 ≡ get_or u e 0
unique-list-table b list h k e inside = blocks-fix (positive b) h k e inside

-- power sums stand at block (i·l + x, y)
sums-blocks : {l n count : ℕ} {M : ℕ → ℕ → ℕ → Matrix} {U : ℕ → Matrix} {t : List ℕ} → 0 < l → HoldsSums l n M U count t
    → Holds l (l * l) (count * l) l t (λ j b. power_sums l n (M (j / l)) U (j % l) b)
sums-blocks {l} {n} {count} {M} {U} {t} p h = record {
  same = λ j b hj hb.
      subst (λ x. Same l (tile l (l * l) t x b) (power_sums l n (M (j / l)) U (j % l) b)) (div-add-mod' j l)
      (h.same (j / l) (j % l) b ((div-lt_iff_lt-mul p).1 hj) (mod-lt j p) hb);
}

-- where the table w holds the powers of S times some matrices, which `evaluate` sees to
pub unique-all-sums : {set : Set} → Bounds set → (public key w : List ℕ) (U : ℕ → Matrix) {t u : List ℕ} → PowersOf set w U
    → SumsOf set public key w t → SumsOf set public key w u
    → (e : ℕ) → e < set.o * (set.l * set.l) * (set.l * set.l) → get_or t e 0 ≡ get_or u e 0
unique-all-sums {set} b public key w U powers h k e inside =
    blocks-fix (positive b) (sums-blocks (positive b) (h.sums U powers)) (sums-blocks (positive b) (k.sums U powers)) e (omega arith)
