-- `system::equation::add_term` meets its contract: the products made of what was read are the term's (`left-products`, `right-products`). Rests on Equation.
use Rattle.std.proofs.Common.{◌≡◌, ap, ◌∙◌, ℕ, ◌+◌, ◌*◌, ◌<◌, ◌≤◌, length}
use Rattle.sets.specs.declared.Set.{Set}
use Rattle.sets.specs.Bounds.{Bounds}
use Rattle.rows.specs.Zero.{length-zeros}
use Rattle.matrix.specs.Matrix.{transpose}
use Rattle.matrix.specs.Block.{view, length-block, block_bytes, stride}
use Rattle.system.specs.Sides.{sides_room}
use Rattle.system.specs.Equation.{left-products, right-products, term-places}
use native.Mathlib.Omega.{arith}
use native.Mathlib.Nat.{mul-le-mul}
use Rattle.sets.specs.Sets.{most_o}
use Rattle.sets.specs.Numbers.{numbers}
use Rattle.sets.proofs.Bounds.{bounds_of}
use Rattle.system.proofs.equation.add_term.Goals as goal

small : {set : Set} → Bounds set → set.l ≤ stride
small b = omega (arith, b.limits.l-most)

-- every power of S that the coefficients combine stands in the table of n bytes
powers-stand : (set : Set) (index : ℕ) {n : ℕ} → index < set.o → set.l * set.l * set.l ≤ n
    → (x : ℕ) → x < set.l → ((0 + x * 1 + 1) * set.l * set.l ≤ n) × ((0 + x * 0 + 1) * set.l ≤ set.l)
powers-stand set index i fits x h = let p = term-places set index i in (omega (arith, p.powers x h, fits), p.power-column x h)

-- the sides of o oil indices fit their room
sides-fit : {set : Set} {n : ℕ} → Bounds set → n ≡ sides_room → set.o * block_bytes ≤ n
sides-fit b e = omega (arith, b.limits.o-most)

pub overflow_mul-index-2 : goal.overflow_mul-index-2
overflow_mul-index-2 c =
    let b = bounds_of c.args.set in
    let index : c.args.term.index ≤ most_o = omega (arith, c.requires.index_lt_o.0, b.limits.o-most) in
    omega (arith, mul-le-mul index b.limits.o-most)

pub combined-first-requires : goal.combined-first-requires
combined-first-requires c =
    let a = c.args in
    record { l_le_stride = small (bounds_of c.args.set); by_index = powers-stand (numbers a.set) a.term.index c.requires.index_lt_o.0 c.requires.table_rooms.powers-fit }

pub combined-last-requires : goal.combined-last-requires
combined-last-requires c =
    let a = c.args in
    record { l_le_stride = small (bounds_of c.args.set); by_index = powers-stand (numbers a.set) a.term.index c.requires.index_lt_o.0 c.requires.table_rooms.powers-fit }

pub fill_sides-requires : goal.fill_sides-requires
fill_sides-requires c =
    let a = c.args in
    let b = bounds_of c.args.set in
    let p = term-places (numbers a.set) a.term.index c.requires.index_lt_o.0 in
    record {
      l_nonzero = (omega (arith, b.limits.l-least), (small b, sides-fit b (length-zeros sides_room)));
      by_index = λ k x hk hx. (omega (arith, p.left (a.term.index * a.set.l) k x (omega arith) hk hx, c.requires.table_rooms.left-fits), p.left-column k x hk hx);
    }

pub fill_sides-requires-2 : goal.fill_sides-requires-2
fill_sides-requires-2 c =
    let a = c.args in
    let b = bounds_of c.args.set in
    let p = term-places (numbers a.set) a.term.index c.requires.index_lt_o.0 in
    record {
      l_nonzero = (omega (arith, b.limits.l-least), (small b, sides-fit b (length-zeros sides_room)));
      by_index = λ k x hk hx. (omega (arith, p.right (a.term.index * a.set.o) k x (omega arith) hk hx, c.requires.table_rooms.right-fits), p.right-column k x hk hx);
    }

pub add_outer-requires : goal.add_outer-requires
add_outer-requires c =
    let b = bounds_of c.args.set in
    let bt-long : length c.transposed-bt.result ≡ block_bytes = ap length c.transposed-bt.ensures ∙ length-block c.args.set.l (transpose (view c.args.term.b)) in
    record {
      l_nonzero = (omega (arith, b.limits.l-least), (small b, c.requires.product_rooms.lefts-fit));
      block_bytes_in_bounds = (sides-fit b (c.fill_sides.auto.out ∙ length-zeros sides_room), omega arith);
    }

pub add_outer-requires-2 : goal.add_outer-requires-2
add_outer-requires-2 c =
    let b = bounds_of c.args.set in
    record {
      l_nonzero = (omega (arith, b.limits.l-least), (small b, c.requires.product_rooms.rights-fit));
      block_bytes_in_bounds = (sides-fit b (c.fill_sides-2.auto.out ∙ length-zeros sides_room), omega (arith, c.requires.index_lt_o.1));
    }

pub returns : goal.returns
returns c =
    let a = c.args in
    let first-is = c.combined-first.ensures in
    let last-is = c.combined-last.ensures in record {
      by_index = λ abq i alpha is.
          left-products (bounds_of c.args.set) abq a.left.now a.right.now a.sp.now is first-is last-is c.transposed-bt.ensures
          c.fill_sides.ensures.0 c.add_outer.ensures;
      by_index_2 = λ abq i alpha is.
          right-products (bounds_of c.args.set) abq a.left.now a.right.now a.sp.now is first-is last-is c.fill_sides-2.ensures.0
          c.add_outer-2.ensures;
    }
