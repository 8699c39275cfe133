-- A label has at most 8 bytes.
use Rattle.std.proofs.Common.{arith}
use Rattle.response_format.proofs.Labels.{label-short}
use Rattle.response_lines.proofs.line.labelled.Goals as goal

pub overflow_add-at-then-at-length-3 : goal.overflow_add-at-then-at-length-3
overflow_add-at-then-at-length-3 c = omega (arith, label-short c.args.field)
