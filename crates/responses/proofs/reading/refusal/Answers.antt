-- The reader fed the whole file ends with the file's refusal: `reads`.
use Rattle.std.proofs.Common.{ap, ◌∙◌}
use Rattle.ground.specs.Answers.{number_of}
use Rattle.response_machine.specs.Reads.{fed, end_of}
use Rattle.response_machine.proofs.Reading.{reads}
use Rattle.responses.proofs.reading.refusal.Goals as goal

pub returns : goal.returns
returns c =
    let file = c.args.file.now in
    let last = c.absorb.ensures ∙ ap (λ r. fed r file) c.start.ensures in
    ap number_of (c.end.ensures ∙ ap end_of last) ∙ reads file
