-- `system::sides::fill_sides` meets its contract. The invariant: the first k blocks are there, zeros behind them, and the next has its block of the table. Rests on Sides and tables' Sums.
use Rattle.std.proofs.Common.{ap, length}
use Rattle.matrix.specs.Block.{view, length-block}
use Rattle.matrix.specs.Promises.{coefficients}
use Rattle.tables.specs.Sums.{adding-none, adding-next-at, adding-end}
use Rattle.system.specs.Sides.{side-row, sides-filled, tile-fits}
use native.Mathlib.Omega.{arith}
use Rattle.system.proofs.sides.fill_sides.Goals as goal

pub loop-k-init : goal.loop-k-init
loop-k-init c =
    let some = c.requires.l_nonzero.0 in
    record { turn = λ h. let here = c.requires.by_index _ 0 h some in tile-fits some here.0 here.1; blocks = adding-none }

pub combined-middle-requires : goal.combined-middle-requires
combined-middle-requires c =
    record { l_le_stride = c.requires.l_nonzero.1.0; by_index = λ x h. c.requires.by_index c.loop-k.k x c.loop-k-test.true h }

pub add_scaled-requires : goal.add_scaled-requires
add_scaled-requires c =
    omega (
      arith,
      simp length-block at (ap length c.product-side.ensures),
      c.loop-k-test.true,
      c.loop-k.invariant.blocks.so_far.long,
      c.clear.auto.s,
      c.requires.l_nonzero.1.1,
    )

pub loop-k-preserved : goal.loop-k-preserved
loop-k-preserved c =
    let a = c.args in
    let some = c.requires.l_nonzero.0 in
    record {
      turn = λ h. let here = c.requires.by_index _ 0 h some in tile-fits some here.0 here.1;
      blocks =
          adding-next-at c.loop-k.invariant.blocks c.loop-k-test.true (omega arith)
          (side-row c.requires.l_nonzero.1.0 a.first a.last (coefficients a.q) a.table.now a.w a.row a.down a.across c.loop-k.k
          c.combined-middle.ensures c.product-right.ensures c.product-side.ensures c.add_scaled.ensures);
    }

pub returns : goal.returns
returns c =
    let a = c.args in
    let blocks = c.loop-k.invariant.blocks in
    let cleared = c.clear in (
      sides-filled c.requires.l_nonzero.1.0 (view a.first) (coefficients a.q) a.table.now a.w a.row a.down a.across (view a.last) a.out.now
          cleared.ensures (adding-end blocks c.loop-k-test.false),
      omega (arith, blocks.so_far.long, cleared.auto.s),
    )
