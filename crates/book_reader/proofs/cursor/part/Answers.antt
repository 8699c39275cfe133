-- `book_reader::part` meets its contract: the payload of block b, or the empty end; place and contents. Rests on Parts.
use Rattle.std.proofs.Common.{refl, ap, ◌∙◌}
use Rattle.blocks.specs.Block.{size_of}
use Rattle.book_reader.specs.Parts.{no_part, no_start, a-start, part_cut}
use native.Mathlib.Omega.{arith}
use Rattle.book_reader.proofs.cursor.part.Goals as goal

pub returns-then-n-b : goal.returns-then-n-b
returns-then-n-b c =
    let at = c.args in
    record { contents = no_part at.book.now at.b c.if-n-b.true; place = (refl, omega (arith, no_start at.book.now at.b c.if-n-b.true)) }

pub returns : goal.returns
returns c =
    let at = c.args in
    let size = c.size_of.ensures ∙ ap size_of c.block_at.ensures.is in
    record {
      contents = part_cut at.book.now at.b c.if-n-b.false _ _ size c.min.ensures;
      place = (refl, omega (arith, a-start at.book.now at.b c.if-n-b.false));
    }
