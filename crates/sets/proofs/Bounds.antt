-- An allowed set keeps every product small: `bounds`, from the page's limits. What it says stands in specs/Bounds. Rests on the kit's arithmetic.
use Rattle.std.specs.Prelude.{◌≡◌, refl, true, ◌*◌, ◌≤◌}
use Rattle.std.proofs.Common.{mul-le-mul, mul-le-mul_left, arith}
use Rattle.sets.specs.declared.Set.{Set}
use Rattle.sets.specs.declared.within.AllowedSet.{AllowedSet}
use Rattle.sets.specs.Sets.{allowed_set, least_l, most_row, terms, all_terms, unknowns, public_count, abq_count, private_count, vinegar_count, target_count, key_count, signature_count, work_bytes}
use Rattle.sets.specs.Bounds.{Limits, Products, Counts, Sizes, Bounds, limits}
use Rattle.sets.specs.Numbers.{numbers}

products : {s : Set} → Limits s → Products s
products {s} h =
    let ll = mul-le-mul h.l-most h.l-most in
    let vv = mul-le-mul h.v-most h.v-most in
    let vo = mul-le-mul h.v-most h.o-most in
    let oo = mul-le-mul h.o-most h.o-most in
    let ol : s.o * s.l * least_l ≤ most_row = omega (arith, mul-le-mul_left (s.o * s.l) h.l-least) in
    record {
      ll = ll;
      vl = mul-le-mul h.v-most h.l-most;
      vll = mul-le-mul h.v-most ll;
      ol = ol;
      vv = vv;
      vvl = mul-le-mul vv h.l-most;
      vvll = mul-le-mul vv ll;
      vo = vo;
      vol = mul-le-mul h.v-most ol;
      voll = mul-le-mul h.v-most h.row;
      oo = oo;
      ool = mul-le-mul h.o-most ol;
      ooll = mul-le-mul h.o-most h.row;
      vvo = mul-le-mul vv h.o-most;
      vvol = mul-le-mul vv ol;
      vvoll = mul-le-mul vv h.row;
      voo = mul-le-mul vo h.o-most;
      vool = mul-le-mul vo ol;
      vooll = mul-le-mul vo h.row;
      ooo = mul-le-mul oo h.o-most;
      oool = mul-le-mul oo ol;
      oooll = mul-le-mul oo h.row;
      lll = mul-le-mul h.l-most ll;
      llll = mul-le-mul ll ll;
      olll = mul-le-mul h.row h.l-most;
      ollll = mul-le-mul h.row ll;
      oollll = mul-le-mul h.row h.row;
    }

counts : (s : Set) → Counts s
unfolding terms unknowns public_count abq_count private_count vinegar_count target_count key_count signature_count
counts s =
    record {
      terms = refl;
      unknowns = refl;
      public = refl;
      abq = refl;
      private = refl;
      vinegar = refl;
      target = refl;
      key = refl;
      signature = refl;
    }

sizes : {s : Set} → Limits s → Products s → Sizes s
unfolding work_bytes unknowns all_terms terms
sizes {s} h p =
    let c = counts s in
    let all : all_terms s ≤ 2 * most_row = omega arith in
    record {
      terms = omega arith;
      all-terms = all;
      all-terms-l = omega (arith, mul-le-mul all h.l-most);
      unknowns = omega arith;
      public = omega arith;
      abq = omega arith;
      private = omega arith;
      vinegar = omega arith;
      target = omega arith;
      key = omega arith;
      signature = omega arith;
      work = omega arith;
    }

bounds-from : {s : Set} → Limits s → Bounds s
bounds-from {s} h = let p = products h in record { limits = h; products = p; counts = counts s; sizes = sizes h p }

pub bounds : (s : Set) → allowed_set s ≡ true → Bounds s
bounds s e = bounds-from (limits s e)

-- what the type's fact gives
pub bounds_of : (a : AllowedSet) → Bounds (numbers a)
bounds_of a = bounds (numbers a) a.within
