-- `keys::write_key` meets its contract: with the table of T12 filled, every element is written, and the spare half is zero. Rests on Elements.
-- Nothing is asked of what the tables hold before.
use Rattle.std.proofs.Common.{◌∙◌}
use Rattle.packing.specs.Packing.{Bytes}
use Rattle.sets.specs.Rooms.{kept-room, powers-room, private-room, f21-room, key-room}
use Rattle.keys.specs.Elements.{key-whole}
use native.Mathlib.Omega.{arith}
use Rattle.sets.specs.Numbers.{numbers}
use Rattle.sets.proofs.Bounds.{bounds_of}
use Rattle.keys.proofs.write_key.Goals as goal

pub powers_of_s-requires : goal.powers_of_s-requires
powers_of_s-requires c =
    (omega (arith, (bounds_of c.args.set).limits.l-most), powers-room (bounds_of c.args.set))

pub private_table-requires : goal.private_table-requires
private_table-requires c =
    let b = bounds_of c.args.set in
    let powers-of-s = c.powers_of_s in
    record { private_len = (c.requires.public_len.1, private-room b, kept-room (powers-room b) powers-of-s.ensures.long); powers = powers-of-s.ensures.holds }

pub write_elements-requires : goal.write_elements-requires
write_elements-requires c =
    let b = bounds_of c.args.set in
    let t = kept-room (private-room b) c.private_table.ensures.long in
    record { public_len = (c.requires.public_len.0, c.requires.public_len.2, t); l_in_bounds = (f21-room b, key-room b) }

pub clear_spare-requires : goal.clear_spare-requires
clear_spare-requires c =
    record { key_len = c.write_elements.auto.key ∙ c.requires.public_len.2 }

pub returns : goal.returns
returns c =
    let clear-spare = c.clear_spare in
    let write-elements = c.write_elements in
    let a = c.args in
    let bytes : Bytes clear-spare.new.key = record { below = λ k. omega (arith, c.type_inv.key k) } in
    let long = clear-spare.auto.key ∙ write-elements.auto.key ∙ c.requires.public_len.2 in
    key-whole (numbers a.set) a.public.now a.private.now write-elements.ensures c.private_table.ensures.holds clear-spare.ensures bytes long
