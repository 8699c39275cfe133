-- `book_reader::payload` meets its contract: the reader's refusals first, then as copy_field. Rests on Told.
use Rattle.std.proofs.Common.{ap}
use Rattle.ground.specs.Answers.{number_of}
use Rattle.book_reader.specs.Told.{payload-passed}
use Rattle.book_reader.proofs.fields.payload.Goals as goal

pub returns : goal.returns
returns c =
    let at = c.args in
    payload-passed at.book.now at.b at.output.now c.read.ensures (ap number_of c.in_ok-read.was) c.copy_field.ensures
