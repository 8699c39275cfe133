-- `salvage::salvage` meets its contract: a refusal writes nothing; else the four passes, one after the other. Rests on Salvages.
use Rattle.std.proofs.Common.{◌≡◌, Err, rules, sym, ap, ◌∙◌}
use Rattle.ground.specs.Answers.{number_of}
use Rattle.ground.specs.AnswerLaws.{answer-done}
use Rattle.salvage.specs.Salvages.{salvage-fits, salvage-refused, salvage-done}
use Rattle.salvage.proofs.salvage.Goals as goal

pub returns-in_err-check_salvage : goal.returns-in_err-check_salvage
returns-in_err-check_salvage c =
    let is : c.from_residual.result ≡ Err c.in_err-check_salvage.field-0.0 = search rules in
    rw is (salvage-refused c.args.book.now c.args.output.now c.args.list.now _ (sym (ap number_of c.in_err-check_salvage.was) ∙ c.check_salvage.ensures))

pub judge-requires : goal.judge-requires
judge-requires c =
    let fits = salvage-fits c.args.book.now c.args.output.now c.args.list.now (answer-done _ c.check_salvage.ensures c.in_ok-check_salvage.was) in
    record { is = fits.0; long = fits.1.1 }

pub settle-requires : goal.settle-requires
settle-requires c =
    let fits = salvage-fits c.args.book.now c.args.output.now c.args.list.now (answer-done _ c.check_salvage.ensures c.in_ok-check_salvage.was) in
    record { is = fits.0; holds = c.judge.ensures }

pub keep-requires : goal.keep-requires
keep-requires c =
    let fits = salvage-fits c.args.book.now c.args.output.now c.args.list.now (answer-done _ c.check_salvage.ensures c.in_ok-check_salvage.was) in
    record { is = fits.0; holds = c.settle.ensures; long = fits.1.0 }

pub returns : goal.returns
returns c =
    salvage-done c.args.book.now c.args.output.now c.args.list.now (answer-done _ c.check_salvage.ensures c.in_ok-check_salvage.was) c.keep.ensures.count
    c.keep.ensures.pasted c.settle.ensures
