-- `salvage::keep_block` meets its contract: a block made anew from what the old one holds, or none. Rests on Keeping.
use Rattle.std.proofs.Common.{ap, ◌∙◌, length}
use Rattle.book_reader.specs.Parts.{part-there}
use Rattle.salvage.specs.Keeping.{keeps-not, keeps-one}
use native.Mathlib.Omega.{arith}
use Rattle.salvage.proofs.keeping.keep_block.Goals as goal

pub returns-then-number-ne0 : goal.returns-then-number-ne0
returns-then-number-ne0 c = keeps-not c.requires c.if-number-ne0.true

pub fill-requires : goal.fill-requires
fill-requires c =
    let size = c.requires.small c.if-number-ne0.false in
    let is = c.part-payload.ensures.contents ∙ part-there c.args.book.now c.args.b c.requires.there in
    (omega (arith, c.requires.room), omega (arith, ap length is))

pub returns : goal.returns
returns c =
    let is = c.part-payload.ensures.contents ∙ part-there c.args.book.now c.args.b c.requires.there in
    keeps-one c.requires c.if-number-ne0.false c.block_at.ensures c.head_of-head.ensures is c.fill.ensures
