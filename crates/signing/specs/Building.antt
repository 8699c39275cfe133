-- What the functions of src/solving.rt cite: the vinegar's table, the system that was built as page 01's, and the area that elimination asks for.
-- Rests on Solving, and on system's law that a built system is the scheme's.
use Rattle.std.specs.Prelude.{◌≡◌, Result, List, ℕ, ◌+◌, ◌*◌, ◌<◌, ◌≤◌, length}
use Rattle.std.proofs.Common.{sym, subst, mul-le-mul_right, arith}
use Rattle.std.proofs.Math.Decide.{dec_lt}
use Rattle.field.specs.Laws.{add-lt}
use Rattle.packing.proofs.Laws.{element-lt}
use Rattle.sets.specs.declared.Set.{Set}
use Rattle.sets.specs.Sets.{unknowns, work_bytes}
use Rattle.sets.specs.Bounds.{Bounds}
use Rattle.matrix.specs.Same.{same_refl, same-mul}
use Rattle.scheme.specs.Streams.{vinegar_of}
use Rattle.scheme.specs.Linear.{vinegar_part-lt}
use Rattle.scheme.specs.Regroup.{power_times}
use Rattle.scheme.specs.Coefficients.{coefficient_at-lt}
use Rattle.tables.specs.Table.{Holds, Filled, holds_same}
use Rattle.tables.specs.Unpacked.{Unpacked, list_of, unpacked-list}
use Rattle.linear.specs.System.{at, Area, Eliminated}
use Rattle.linear.specs.declared.Singular.{Singular}
use Rattle.system.specs.System.{SystemHolds}
use Rattle.signing.specs.Solving.{Built, Solving, solving}

-- the powers of S times the unpacked vinegar
pub vinegar-powers : (set : Set) {vinegar list x before before' : List ℕ} {n : ℕ} → n ≡ set.v * (set.l * set.l) → Unpacked vinegar n before list
    → Filled set.l (set.l * set.l) set.v set.l (λ k b. power_times set.l b (list_of set.l list k)) before' x
    → Holds set.l (set.l * set.l) set.v set.l x (λ j b. power_times set.l b (vinegar_of set vinegar j))
unfolding vinegar_of
vinegar-powers set n-is u f =
    holds_same (λ j b hj hb.
    let row : j + 1 ≤ set.v = omega arith in
    same-mul same_refl (unpacked-list u set.l j (omega (arith, n-is, mul-le-mul_right (set.l * set.l) row)))) f.holds

pub built-from : {set : Set} {public abq private vinegar target after : List ℕ} → SystemHolds set public abq private (vinegar_of set vinegar) target after
    → Built set public abq private vinegar target after
unfolding at unknowns
built-from h = record { coefficients = h.coefficient; right = h.known }

-- the work area has room for the system, as the crate system counts it
pub system-room : (set : Set) {n : ℕ} → n ≡ work_bytes set → set.o * (set.l * set.l) * (set.o * set.l * set.l + 1) ≤ n
unfolding work_bytes unknowns
system-room set e = omega (arith, e)

-- a built system is of elements
pub built-area : {set : Set} {public abq private vinegar target g : List ℕ} {n : ℕ} → Bounds set → n ≡ unknowns set → unknowns set * (unknowns set + 1) ≤ length g
    → Built set public abq private vinegar target g → Area g n
built-area {set} {public} {abq} {private} {vinegar} {target} {g} {n} b e fits h = subst (λ k. Area g k) (sym e) (record {
  limit = b.sizes.unknowns;
  fits = fits;
  small = λ r c hr hc.
      elim (dec_lt c (unknowns set)) [
        | yes p ↦ rw (h.coefficients r c hr p) (coefficient_at-lt set public abq private (vinegar_of set vinegar) _ _ _ c)
        | no p ↦
            let last : c ≡ unknowns set = omega arith in
            rw (last, h.right r hr) (add-lt _ _ (vinegar_part-lt set public abq private (vinegar_of set vinegar) _ _ _) (element-lt target r))
      ];
})

-- what elimination found, with the number of unknowns that was computed
pub solving-from : {set : Set} {public abq private vinegar target g h : List ℕ} {n : ℕ} {r : Result Unit Singular} → 0 < set.l → n ≡ unknowns set
    → Built set public abq private vinegar target g → Eliminated g n r h → Solving set public abq private vinegar target r h
solving-from {g = g} {h = h} {r = r} p e b f = solving p b (subst (λ k. Eliminated g k r h) e f)
