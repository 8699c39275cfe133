-- `linear::pivot` meets its contract: the find looks at the rows from row k on, one after the other, and stops at the first entry that is not zero.
use Rattle.std.specs.Prelude.{◌≡◌, ◌≢◌, ℕ}
use Rattle.std.proofs.Common.{rules, arith}
use Rattle.std.proofs.iter.Serving.{serving}
use Rattle.std.proofs.lemmas.Grind.{common_steps}
use Rattle.std.proofs.lemmas.Iterator.{first_from_Range}
use Rattle.linear.specs.Frame.{within}
use Rattle.linear.specs.System.{at}
use Rattle.linear.proofs.pivot.Goals as goal

pub find-requires-clause-callable : goal.find-requires-clause-callable
find-requires-clause-callable c = grind (serving, within)

pub returns : goal.returns
returns c =
    let M : ℕ → ℕ = λ r. at c.args.g.now c.args.n r c.args.k in
    let first = first_from_Range _ _ _ c.find.result (λ r. M r ≢ 0) (λ r. M r ≡ 0) c.find.ensures.ran (λ x q h. search rules) (λ x q h. search rules) in
    grind (arith, common_steps, first)
