-- `book_writer::sizes_fit` meets its contract: the sum of the first i sizes is within the bytes. Rests on Lists.
use Rattle.std.proofs.Common.{◌+◌, ◌≡◌, refl, sym, ne_eqb, length}
use Rattle.book_writer.specs.Lists.{total, total-more, total-up}
use native.Mathlib.Omega.{arith}
use Rattle.book_writer.proofs.lists.sizes_fit.Goals as goal

pub loop-size-init : goal.loop-size-init
unfolding total
loop-size-init c = (refl, omega arith)

pub returns-then-bytes-at : goal.returns-then-bytes-at
returns-then-bytes-at c =
    let i = c.loop-size.size-index in
    let sizes = c.args.sizes.now in
    let other : total (length sizes) sizes ≡ c.args.bytes → ⊥ = λ e. omega (arith, total-more i sizes, total-up (i + 1) (length sizes) sizes (omega arith), c.if-bytes-at.true) in
    sym (ne_eqb _ _ other)

pub loop-size-preserved : goal.loop-size-preserved
loop-size-preserved c = (omega (arith, total-more c.loop-size.size-index c.args.sizes.now), omega arith)
