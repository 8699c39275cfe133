-- `keys::elements::clear_spare` meets its contract: an odd count has its zero written, an even one leaves no spare half. Rests on Elements and Places.
use Rattle.keys.specs.KeyPlaces.{spare-within}
use Rattle.keys.specs.Elements.{spare-put, spare-none}
use native.Mathlib.Omega.{arith}
use Rattle.sets.specs.Numbers.{numbers}
use Rattle.keys.proofs.elements.clear_spare.Goals as goal

pub put-requires : goal.put-requires
put-requires c =
    (spare-within (numbers c.args.set) c.key_count-count.ensures c.if-count-eq1.true c.requires.key_len, omega arith)

pub returns-then-count-eq1 : goal.returns-then-count-eq1
returns-then-count-eq1 c =
    spare-put (numbers c.args.set) c.key_count-count.ensures c.put.ensures

pub returns-else-count-eq1 : goal.returns-else-count-eq1
returns-else-count-eq1 c = spare-none (numbers c.args.set) c.key_count-count.ensures c.if-count-eq1.false
