-- The table of lengths is that of the labels: label-length.
use Rattle.response_format.proofs.Labels.{label-length, label-past}
use Rattle.std.proofs.Common.{length, sym, ap}
use Rattle.response_lines.proofs.labels.label_length.Goals as goal

pub returns-then-field-lt8 : goal.returns-then-field-lt8
returns-then-field-lt8 c = rw c.from.ensures (label-length _ c.if-field-lt8.true)

pub returns-else-field-lt8 : goal.returns-else-field-lt8
returns-else-field-lt8 c = sym (ap length (label-past _ c.if-field-lt8.false))
