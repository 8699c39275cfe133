-- `snova_book_salvage` meets its contract: the number and the count of what salvage answers. Rests on BookCalls.
use Rattle.snova.specs.BookCalls.{salvage-counts, salvage-refuses}
use Rattle.snova.proofs.book_calls.snova_book_salvage.Goals as goal

pub returns-in_default : goal.returns-in_default
returns-in_default c = salvage-refuses c.salvage-answer.ensures c.in_default.is c.number.ensures

pub returns : goal.returns
returns c = salvage-counts c.salvage-answer.ensures c.in-Ok.is
