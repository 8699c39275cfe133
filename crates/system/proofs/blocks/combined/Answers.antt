-- `system::blocks::combined` meets its contract. The invariant: the rows of the block have gained the first x terms, and the next has its block. Rests on BlockRows, tables' Sums and Sides.
use Rattle.matrix.specs.Block.{block_bytes}
use Rattle.rows.specs.Zero.{length-zeros}
use Rattle.tables.specs.Sums.{summing-none, summing-next, summing-end}
use Rattle.system.specs.BlockRows.{block-summed}
use Rattle.system.specs.Sides.{combined_from, tile-fits}
use native.Mathlib.Omega.{arith}
use Rattle.system.proofs.blocks.combined.Goals as goal

pub loop-x-init : goal.loop-x-init
loop-x-init c =
    record {
      turn = λ h. let here = c.requires.by_index _ h in tile-fits (omega (arith, h)) here.0 here.1;
      room = length-zeros block_bytes;
      terms = summing-none;
    }

pub loop-x-preserved : goal.loop-x-preserved
loop-x-preserved c =
    let i = c.loop-x.invariant in
    record {
      turn = λ h. let here = c.requires.by_index _ h in tile-fits (omega (arith, h)) here.0 here.1;
      room = omega (arith, c.add_tile.auto.sum, i.room);
      terms = summing-next i.terms c.loop-x-test.true c.add_tile.ensures;
    }

pub returns : goal.returns
unfolding combined_from
returns c =
    block-summed c.args.l _ (summing-end c.loop-x.invariant.terms c.loop-x-test.false)
