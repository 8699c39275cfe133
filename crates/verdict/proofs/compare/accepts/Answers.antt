-- `verdict::compare::accepts` meets its contract: the map at the unpacked signature, and the search for an entry that differs. Rests on Difference.
use Rattle.std.proofs.Common.{refl, ◌∙◌, ◌*◌, ◌≤◌}
use Rattle.rows.specs.Zero.{length-zeros}
use Rattle.sets.specs.Sets.{most_row, target_bytes, signature_bytes, variables}
use Rattle.sets.proofs.Bounds.{bounds_of}
use Rattle.sets.specs.Rooms.{list_room, list-room}
use Rattle.verdict.specs.Difference.{signature-values, compared-accepted}
use native.Mathlib.Omega.{arith}
use Rattle.sets.specs.Numbers.{numbers}
use Rattle.verdict.proofs.compare.accepts.Goals as goal

pub unpack_all-requires : goal.unpack_all-requires
unfolding signature_bytes
unpack_all-requires c =
    let b = bounds_of c.args.set in
    omega (arith, c.signature_count.ensures, b.counts.signature, list-room b, c.requires.signature-long)

pub evaluate-requires : goal.evaluate-requires
evaluate-requires c =
    let b = bounds_of c.args.set in
    let long = c.unpack_all.ensures.long ∙ length-zeros list_room in rw c.numbers.ensures.itself record { map_lent = record { bounds = b; public-long = c.requires.public-long; abq-lent = c.requires.abq-lent; key-long = c.requires.key-long }; l_in_bounds = (omega (arith, list-room b), b.limits.row) }

pub first_difference-requires : goal.first_difference-requires
unfolding target_bytes
first_difference-requires c =
    let b = bounds_of c.args.set in
    let long = c.evaluate.ensures.long ∙ length-zeros most_row in
    omega (arith, c.target_count-n.ensures, b.sizes.target, c.requires.target-long)

pub returns : goal.returns
returns c =
    let a = c.args in
    let b = bounds_of c.args.set in
    let whole : variables (numbers a.set) * (a.set.l * a.set.l) ≤ c.signature_count.result = omega (arith, c.signature_count.ensures, b.counts.signature) in
    compared-accepted b a.public.now a.abq.now a.key.now a.signature.now a.target.now c.target_count-n.ensures
    (signature-values b a.public.now a.abq.now a.key.now a.signature.now whole c.unpack_all.ensures (rw c.numbers.ensures.itself at c.evaluate.ensures))
    c.first_difference.ensures refl
