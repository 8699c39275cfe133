-- The table of labels, eight bytes each: label-byte.
use native.Mathlib.Omega.{arith}
use Rattle.response_format.proofs.Labels.{label-byte, label-due, label-short}
use Rattle.response_lines.proofs.labels.label_byte.Goals as goal

pub bounds-from : goal.bounds-from
bounds-from c = omega (arith, label-due _ _ c.requires, label-short c.args.field, c.from.ensures, c.from-2.ensures)

pub returns : goal.returns
returns c = rw (c.from.ensures, c.from-2.ensures) (label-byte _ _ c.requires)
