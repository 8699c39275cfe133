-- `linear::clear_column` meets its contract. The invariant: the rows before row r have gained their factor times the pivot row (`PlusRows`); row r lies within the area.
-- A turn is one gain of a whole row, right-hand element included (`gained`, `cleared-next`).
use Rattle.std.proofs.Common.{ℕ, ◌+◌, ◌*◌, ◌<◌, length}
use Rattle.std.proofs.Common.{length-set}
use Rattle.field.specs.Field.{add}
use Rattle.ground.specs.Place.{row_fits}
use Rattle.rows.specs.PlusRows.{rows_none}
use Rattle.linear.specs.Row.{row_at, gained}
use Rattle.rows.specs.RowsJoin.{rows_end}
use Rattle.linear.specs.Frame.{cleared-next}
use native.Mathlib.Omega.{arith}
use Rattle.linear.proofs.clear_column.Goals as goal

pub loop-r-init : goal.loop-r-init
loop-r-init c = record { upto = omega arith; ends = λ h. omega (arith, row_fits (c.args.n + 1) h, c.requires); gained = rows_none }

pub loop-r-preserved : goal.loop-r-preserved
unfolding add
loop-r-preserved c =
    let a = c.args in
    let i = c.loop-r.invariant in
    let last : c.loop-r.r * (a.n + 1) + a.n < length c.loop-r.g = omega (arith, i.ends c.loop-r-test.true) in
    record {
      upto = omega arith;
      ends = λ h. omega (arith, row_fits (a.n + 1) h, c.requires, i.gained.long, c.add_scaled.auto.dst, length-set {A = ℕ});
      gained = cleared-next a.n a.k _ (row_at a.row a.n) i.gained c.factor-s.ensures (gained a.row _ c.add_scaled.ensures last _ c.mul.ensures);
    }

pub returns : goal.returns
returns c = rows_end c.loop-r.invariant.gained c.loop-r.invariant.upto c.loop-r-test.false
