-- `field::chosen` meets its contract: the code mirrors the definition; a byte times a digit below 2 is a byte.
use Rattle.std.proofs.Common.{ap, ◌*◌, ◌/◌, ◌%◌}
use lib.Bits.{bit_xor}
use Rattle.field.specs.Field.{chosen_of}
use Rattle.field.proofs.chosen.Goals as goal

pub returns : goal.returns
unfolding chosen_of
returns c =
    let a = c.args in
    ap (λ x. bit_xor x (bit_xor (a.x2 * (a.b / 2 % 2)) (bit_xor (a.x4 * (a.b / 4 % 2)) (a.x8 * (a.b / 8 % 2))))) c.low_chosen.ensures
