-- `tables::sums::copy_column` meets its contract. The invariant: the first k bytes are copied. Rests on Columns.
use Rattle.std.proofs.Common.{refl, ◌+◌, ◌*◌, ◌<◌, length}
use Rattle.tables.specs.Columns.{copying-next}
use Rattle.tables.proofs.sums.copy_column.Goals as goal

pub loop-k-preserved : goal.loop-k-preserved
loop-k-preserved c =
    let places : (let a = c.args in let k = c.loop-k.k in (a.at + k * a.stride < length a.dst.now) × (a.from + k * a.step < length a.src.now)) = c.requires.by_index c.loop-k.k c.loop-k-test.true in
    copying-next c.loop-k.invariant c.loop-k-test.true c.requires.stride_nonzero places.0 refl
