-- `partial_sums::products::add_products` meets its contract. The invariant: y block rows are added, for every table whose multiples these are, and the next one has its place.
-- Rests on Products.
use Rattle.partial_sums.specs.Products.{multiplying-none, multiplying-next, multiplying-end, product-turn}
use Rattle.partial_sums.proofs.products.add_products.Goals as goal

pub loop-y-init : goal.loop-y-init
loop-y-init c = record { so_far = multiplying-none; turn = λ h. let a = c.args in product-turn a.l a.n a.number a.a a.count c.requires.l_bound.1.1.0 h }

pub loop-y-preserved : goal.loop-y-preserved
loop-y-preserved c =
    let a = c.args in
    let i = c.loop-y.invariant in
    record {
      so_far = multiplying-next i.so_far c.loop-y-test.true c.add_blocks.auto.dst c.add_blocks.ensures;
      turn = λ h. product-turn a.l a.n a.number a.a a.count c.requires.l_bound.1.1.0 h;
    }

pub returns : goal.returns
returns c = multiplying-end c.loop-y.invariant.so_far c.loop-y-test.false
