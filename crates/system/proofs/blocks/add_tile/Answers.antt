-- `system::blocks::add_tile` meets its contract. The invariant: the first r rows have gained, and the next has its place. Rests on BlockRows and tables' Sums.
use Rattle.tables.specs.Sums.{adding-none, adding-next-at, adding-end}
use Rattle.system.specs.BlockRows.{tile-row, row_within}
use native.Mathlib.Omega.{arith}
use Rattle.system.proofs.blocks.add_tile.Goals as goal

pub loop-r-init : goal.loop-r-init
loop-r-init c = record { turn = row_within c.requires.1.1.0 c.requires.1.1.1; rows = adding-none }

pub loop-r-preserved : goal.loop-r-preserved
loop-r-preserved c =
    let a = c.args in
    record {
      turn = row_within c.requires.1.1.0 c.requires.1.1.1;
      rows =
          adding-next-at c.loop-r.invariant.rows c.loop-r-test.true (omega arith)
          (tile-row a.l a.w a.table.now a.j a.k c.loop-r.r a.factor c.requires.0 c.add_scaled.ensures);
    }

pub returns : goal.returns
returns c = adding-end c.loop-r.invariant.rows c.loop-r-test.false
