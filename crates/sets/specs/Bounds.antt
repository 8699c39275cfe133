-- What an allowed set keeps small: the page's limits as facts, and every product that the code forms, so that no product wraps.
-- Every bound is said by the limits' names, so a raised limit moves no line here. Rests on Sets and the kit's arithmetic.
use Rattle.std.specs.Prelude.{◌≡◌, true, false, ℕ, ◌+◌, ◌*◌, ◌≤◌, leb}
use Rattle.std.proofs.Common.{leb-true, le-leb}
use Rattle.ground.specs.Pick.{both_left, both_right, both_true}
use Rattle.sets.specs.declared.Set.{Set}
use Rattle.sets.specs.Sets.{
  allowed_set,
  from_to,
  most_v,
  most_o,
  least_l,
  most_l,
  most_row,
  variables,
  terms,
  all_terms,
  unknowns,
  public_count,
  abq_count,
  private_count,
  vinegar_count,
  target_count,
  key_count,
  signature_count,
  work_bytes,
}

-- the limits of page 01, as facts
pub record Limits (s : Set) : Type 0 where
  pub v-least : 1 ≤ s.v
  pub v-most : s.v ≤ most_v
  pub o-least : 1 ≤ s.o
  pub o-most : s.o ≤ most_o
  pub l-least : least_l ≤ s.l
  pub l-most : s.l ≤ most_l
  pub row : s.o * (s.l * s.l) ≤ most_row

pub from-to : {least most x : ℕ} → from_to least most x ≡ true → (least ≤ x) × (x ≤ most)
from-to {least} {most} {x} e = (leb-true least x (both_left (leb least x) (leb x most) e), leb-true x most (both_right (leb least x) (leb x most) e))

to-from : {least most x : ℕ} → least ≤ x → x ≤ most → from_to least most x ≡ true
to-from a b = both_true (le-leb _ _ a) (le-leb _ _ b)

pub limits : (s : Set) → allowed_set s ≡ true → Limits s
unfolding allowed_set
limits s e =
    let after-v = both_right (from_to 1 most_v s.v) _ e in
    let after-o = both_right (from_to 1 most_o s.o) _ after-v in
    let v-is = from-to {least = 1} {most = most_v} (both_left (from_to 1 most_v s.v) _ e) in
    let o_is = from-to {least = 1} {most = most_o} (both_left (from_to 1 most_o s.o) _ after-v) in
    let l-is = from-to {least = least_l} {most = most_l} (both_left (from_to least_l most_l s.l) _ after-o) in
    record {
      v-least = v-is.0;
      v-most = v-is.1;
      o-least = o_is.0;
      o-most = o_is.1;
      l-least = l-is.0;
      l-most = l-is.1;
      row = leb-true _ _ (both_right (from_to least_l most_l s.l) _ after-o);
    }

pub allowed-from : {s : Set} → Limits s → allowed_set s ≡ true
unfolding allowed_set
allowed-from {s} h =
    both_true (to-from h.v-least h.v-most)
    (both_true (to-from h.o-least h.o-most) (both_true (to-from h.l-least h.l-most) (le-leb _ _ h.row)))

-- each product of v, o and l that a length, an index or a table's size goes by; a product with o·l is half of that with o·l² at most
pub record Products (s : Set) : Type 0 where
  pub ll : s.l * s.l ≤ most_l * most_l
  pub vl : s.v * s.l ≤ most_v * most_l
  pub vll : s.v * (s.l * s.l) ≤ most_v * (most_l * most_l)
  pub ol : s.o * s.l * least_l ≤ most_row
  pub vv : s.v * s.v ≤ most_v * most_v
  pub vvl : s.v * s.v * s.l ≤ most_v * most_v * most_l
  pub vvll : s.v * s.v * (s.l * s.l) ≤ most_v * most_v * (most_l * most_l)
  pub vo : s.v * s.o ≤ most_v * most_o
  pub vol : s.v * (s.o * s.l * least_l) ≤ most_v * most_row
  pub voll : s.v * (s.o * (s.l * s.l)) ≤ most_v * most_row
  pub oo : s.o * s.o ≤ most_o * most_o
  pub ool : s.o * (s.o * s.l * least_l) ≤ most_o * most_row
  pub ooll : s.o * (s.o * (s.l * s.l)) ≤ most_o * most_row
  pub vvo : s.v * s.v * s.o ≤ most_v * most_v * most_o
  pub vvol : s.v * s.v * (s.o * s.l * least_l) ≤ most_v * most_v * most_row
  pub vvoll : s.v * s.v * (s.o * (s.l * s.l)) ≤ most_v * most_v * most_row
  pub voo : s.v * s.o * s.o ≤ most_v * most_o * most_o
  pub vool : s.v * s.o * (s.o * s.l * least_l) ≤ most_v * most_o * most_row
  pub vooll : s.v * s.o * (s.o * (s.l * s.l)) ≤ most_v * most_o * most_row
  pub ooo : s.o * s.o * s.o ≤ most_o * most_o * most_o
  pub oool : s.o * s.o * (s.o * s.l * least_l) ≤ most_o * most_o * most_row
  pub oooll : s.o * s.o * (s.o * (s.l * s.l)) ≤ most_o * most_o * most_row
  pub lll : s.l * (s.l * s.l) ≤ most_l * (most_l * most_l)
  pub llll : s.l * s.l * (s.l * s.l) ≤ most_l * most_l * (most_l * most_l)
  pub olll : s.o * (s.l * s.l) * s.l ≤ most_row * most_l
  pub ollll : s.o * (s.l * s.l) * (s.l * s.l) ≤ most_row * (most_l * most_l)
  pub oollll : s.o * (s.l * s.l) * (s.o * (s.l * s.l)) ≤ most_row * most_row

-- each definition written out, so that `omega` reads it as a sum of products
pub record Counts (s : Set) : Type 0 where
  pub terms : terms s ≡ s.l * s.l + s.l
  pub unknowns : unknowns s ≡ s.o * (s.l * s.l)
  pub public : public_count s ≡ s.o * (s.v * s.v + 2 * s.v * s.o) * (s.l * s.l)
  pub abq : abq_count s ≡ all_terms s * (2 * (s.l * s.l) + 2 * s.l)
  pub private : private_count s ≡ s.v * s.o * s.l
  pub vinegar : vinegar_count s ≡ s.v * (s.l * s.l)
  pub target : target_count s ≡ s.o * (s.l * s.l)
  pub key : key_count s ≡ s.o * s.o * s.o * (s.l * s.l)
  pub signature : signature_count s ≡ variables s * (s.l * s.l)

-- how large the counts and the work area can be
pub record Sizes (s : Set) : Type 0 where
  pub terms : terms s ≤ most_l * most_l + most_l
  pub all-terms : all_terms s ≤ 2 * most_row
  pub all-terms-l : all_terms s * s.l ≤ 2 * (most_row * most_l)
  pub unknowns : unknowns s ≤ most_row
  pub public : public_count s ≤ (most_v * most_v + 2 * (most_v * most_o)) * most_row
  pub abq : abq_count s ≤ 2 * most_row * (most_l * most_l + 2 * most_l + 1)
  pub private : private_count s * least_l ≤ most_v * most_row
  pub vinegar : vinegar_count s ≤ most_v * (most_l * most_l)
  pub target : target_count s ≤ most_row
  pub key : key_count s ≤ most_o * most_o * most_row
  pub signature : signature_count s ≤ most_v * (most_l * most_l) + most_row
  pub work : work_bytes s ≤ most_row * (most_row + 1) + 3 * (most_v * most_row)

-- all of it: what a function asks of a set that is allowed
pub record Bounds (s : Set) : Type 0 where
  pub limits : Limits s
  pub products : Products s
  pub counts : Counts s
  pub sizes : Sizes s

-- the tests one after the other: the first that fails decides, and after the three the row's does
module _ (s : Set) where
  pub refused-v : from_to 1 most_v s.v ≡ false → false ≡ allowed_set s
  unfolding allowed_set
  refused-v e = rw e

  pub refused-o : from_to 1 most_v s.v ≡ true → from_to 1 most_o s.o ≡ false → false ≡ allowed_set s
  unfolding allowed_set
  refused-o e f = rw (e, f)

  pub refused-l : from_to 1 most_v s.v ≡ true → from_to 1 most_o s.o ≡ true → from_to least_l most_l s.l ≡ false → false ≡ allowed_set s
  unfolding allowed_set
  refused-l e f g = rw (e, f, g)

  pub row-decides : from_to 1 most_v s.v ≡ true → from_to 1 most_o s.o ≡ true → from_to least_l most_l s.l ≡ true
      → leb (s.o * (s.l * s.l)) most_row ≡ allowed_set s
  unfolding allowed_set
  row-decides e f g = rw (e, f, g)
