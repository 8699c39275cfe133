-- `book_writer::write_all` meets its contract: the first i fields are written, and the others are still to come. Rests on WritingAll.
use Rattle.book_writer.specs.WritingAll.{writing-none, room, room-asks, writing-on, writing-end}
use Rattle.std.proofs.Common.{rules}
use native.Mathlib.Omega.{arith}
use Rattle.book_writer.proofs.write_all.Goals as goal

pub loop-i-init : goal.loop-i-init
loop-i-init c = writing-none _ _ _ _ _

pub overflow_add-end : goal.overflow_add-end
overflow_add-end c = omega (arith, (room c.requires c.loop-i.invariant c.loop-i-test.true).byte)

pub slice_bounds-write_field-end : goal.slice_bounds-write_field-end
slice_bounds-write_field-end c = omega (arith, (room c.requires c.loop-i.invariant c.loop-i-test.true).byte)

pub write_field-b-requires : goal.write_field-b-requires
write_field-b-requires c =
    room-asks c.requires c.loop-i.invariant c.loop-i-test.true

pub loop-i-preserved : goal.loop-i-preserved
loop-i-preserved c =
    writing-on c.requires c.loop-i.invariant c.loop-i-test.true c.write_field-b.ensures

pub returns : goal.returns
returns c = writing-end c.requires c.loop-i.invariant (search rules)
