-- `signing::sign_lent` meets its contract. What solving found decides: the signature is written, or nothing; then the work area is cleared. Rests on Outcomes.
use Rattle.std.proofs.Common.{ap, ◌∙◌, rules}
use Rattle.checks.specs.Lent.{sign-lent}
use Rattle.rows.specs.Zero.{zeros}
use Rattle.signing.specs.Emitting.{some-l, output-length, system-within}
use Rattle.signing.specs.Outcomes.{signs-redo, signs-done}
use Rattle.sets.specs.Numbers.{numbers}
use Rattle.signing.proofs.sign_lent.Goals as goal

pub solve-requires : goal.solve-requires
solve-requires c =
    let lent = sign-lent _ _ _ _ _ _ _ _ _ c.requires in
    record { abq_lent = lent.abq-lent; public_len = (lent.public-long, lent.private-long); vinegar_len = (lent.vinegar-long, (lent.target-long, lent.work-long)) }

pub emit-requires : goal.emit-requires
emit-requires c =
    let found = c.solve.ensures.solved (search rules) in
    let lent = sign-lent _ _ _ _ _ _ _ _ _ c.requires in
    record {
      private_len = (lent.private-long, lent.vinegar-long);
      output_len = (output-length _ lent.output-long lent.salt-long, system-within _ c.solve.auto.work lent.work-long);
      by_index = found.small;
    }

pub returns-in-Ok : goal.returns-in-Ok
returns-in-Ok c =
    signs-done _ _ _ _ _ _ _ _ _ c.requires (some-l (sign-lent _ _ _ _ _ _ _ _ _ c.requires).bounds) (c.solve.ensures.solved c.in-Ok.is)
    c.emit.ensures (c.clear.ensures ∙ ap zeros c.solve.auto.work)

pub returns-in-Err : goal.returns-in-Err
returns-in-Err c =
    signs-redo _ _ _ _ _ _ _ _ _ c.requires (c.solve.ensures.singular c.in-Err.is) (c.clear-in-Err.ensures ∙ ap zeros c.solve.auto.work)
