-- `book_reader::put_part` meets its contract: bytes put one by one are pasted. Rests on ground's Paste.
use Rattle.std.proofs.Common.{refl}
use Rattle.ground.specs.Paste.{segment-pasted}
use Rattle.book_reader.proofs.cursor.put_part.Goals as goal

pub returns : goal.returns
returns c = (refl, segment-pasted c.args.bytes.now c.put.ensures c.requires)
