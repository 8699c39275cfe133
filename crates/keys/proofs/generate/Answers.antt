-- `keys::generate` meets its contract: where nothing is refused the set is allowed and the lengths are exact.
-- Rests on refusals' `keygen-fits` and on what `write_key` ensures.
use Rattle.std.proofs.Common.{◌∙◌, length, rules, sym, true≢false}
use Rattle.ground.specs.AnswerLaws.{answer-done}
use Rattle.refusals.specs.Fits.{keygen-fits}
use Rattle.scheme.specs.Refusals.{keygen_refusals}
use Rattle.keys.proofs.generate.Goals as goal

pub returns-in_err-set : goal.returns-in_err-set
returns-in_err-set c =
    let args = c.args in
    let fits = keygen-fits args.set (length args.public.now) (length args.private.now) (length args.key.now)
    (search (answer-done, rules)) in
    absurd (true≢false (sym fits.allowed ∙ c.in_err-set.ensures.refused.1))

pub write_key-requires : goal.write_key-requires
write_key-requires c =
    let args = c.args in
    let fits = keygen-fits args.set (length args.public.now) (length args.private.now) (length args.key.now)
    (search (answer-done, rules)) in
    let same = c.in_ok-set.ensures.made in
    record { public_len = (rw same fits.public, rw same fits.private, rw same fits.output) }
