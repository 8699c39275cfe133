-- `packing::byte_of` meets its contract: two elements in the field are joined; past the last element there is a zero.
-- Rests on what `joined` ensures.
use Rattle.std.proofs.Common.{ℕ, ◌+◌, ◌*◌, ◌<◌, get_or}
use native.Mathlib.Omega.{arith}
use lib.ListN.{get_or-eq_default}
use Rattle.packing.specs.Packing.{byte_of}
use Rattle.packing.proofs.Laws.{in-field-lt}
use Rattle.packing.proofs.byte_of.Goals as goal

pub joined-requires : goal.joined-requires
joined-requires c =
    let small : (k : ℕ) → get_or c.args.elements.now k 0 < 16 = λ k. in-field-lt c.args.elements.now c.requires.1 k in
    (small _, small _)

pub joined-requires-else-e-elements : goal.joined-requires-else-e-elements
joined-requires-else-e-elements c =
    let small : (k : ℕ) → get_or c.args.elements.now k 0 < 16 = λ k. in-field-lt c.args.elements.now c.requires.1 k in
    omega (arith, small (2 * c.args.j))

pub returns-then-e-elements : goal.returns-then-e-elements
unfolding byte_of
returns-then-e-elements c = c.joined.ensures

pub returns-else-e-elements : goal.returns-else-e-elements
unfolding byte_of
returns-else-e-elements c =
    let a = c.args in
    omega (arith, get_or-eq_default a.elements.now 0 {n = 2 * a.j + 1} c.if-e-elements.false)
