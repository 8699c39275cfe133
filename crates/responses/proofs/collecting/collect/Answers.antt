-- The value stands where the search found its line (seeks_line); decoded, it is what is promised (collects-written). Else nothing is written.
use Rattle.std.proofs.Common.{rules, ◌≡◌, Ok, Err, ap, subst, ◌∙◌, ◌+◌, ◌-◌, take, drop}
use Rattle.response_format.specs.Lent.{Decodes}
use Rattle.response_machine.proofs.Seeks.{seeks_line, seeks-missing, seeks-refused}
use Rattle.response_machine.specs.Collecting.{collects-written, collects-unwritten, collects-absent, collects-refused}
use Rattle.responses.proofs.collecting.collect.Goals as goal

pub returns-in_err-line : goal.returns-in_err-line
returns-in_err-line c =
    let a = c.args in
    let is : c.from_residual.result ≡ Err c.in_err-line.field-0.0 = search rules in
    rw is (collects-refused a.file.now a.entry a.field a.out.now _ (seeks-refused a.file.now a.entry a.field c.find.ensures c.in_err-line.was))

pub returns-in_default : goal.returns-in_default
returns-in_default c =
    let a = c.args in
    collects-absent a.file.now a.entry a.field a.out.now (seeks-missing a.file.now a.entry a.field c.find.ensures (c.in_ok-line.was ∙ ap Ok c.in_default.is))

pub returns-in_default-decode : goal.returns-in_default-decode
returns-in_default-decode c =
    let a = c.args in
    let l = c.in-Some.line in
    let here = seeks_line a.file.now a.entry a.field c.find.ensures c.in_ok-line.was c.in-Some.is in
    let decodes =
    subst (λ x. Decodes (take (l.to - (l.from + x)) (drop (l.from + x) a.file.now)) a.out.now c.decode.result c.decode.new.out)
    (c.from.ensures ∙ c.label_length.ensures) c.decode.ensures in
    collects-written a.file.now a.entry a.field a.out.now here decodes c.in_default-decode.is

pub returns : goal.returns
returns c =
    let a = c.args in
    let l = c.in-Some.line in
    let here = seeks_line a.file.now a.entry a.field c.find.ensures c.in_ok-line.was c.in-Some.is in
    let decodes =
    subst (λ x. Decodes (take (l.to - (l.from + x)) (drop (l.from + x) a.file.now)) a.out.now c.decode.result c.decode.new.out)
    (c.from.ensures ∙ c.label_length.ensures) c.decode.ensures in
    collects-unwritten a.file.now a.entry a.field a.out.now here decodes c.in-Err.is
