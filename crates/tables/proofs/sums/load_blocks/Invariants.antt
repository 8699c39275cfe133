-- `tables::sums::load_blocks` meets its contract. The invariant: the first e entries of each block are copied. Rests on Columns and Laid.
use Rattle.std.proofs.Common.{◌≡◌, length}
use Rattle.tables.specs.Columns.{Loading}
use Rattle.tables.proofs.sums.load_blocks.Given as goal

abbrev pub invariant-loop-e : goal.invariant-loop-e
invariant-loop-e l = (length l.dst ≡ length l.initial.dst) × Loading l.l l.count l.stream l.number l.e l.dst
