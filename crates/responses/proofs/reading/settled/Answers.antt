-- Each arm is one case of `settled`.
use Rattle.response_machine.specs.Machine.{settled}
use Rattle.responses.proofs.reading.settled.Goals as goal

pub returns-in-Gap : goal.returns-in-Gap
unfolding settled
returns-in-Gap c = rw c.in-Gap.is c.after_line.ensures

pub returns-in-Skipped : goal.returns-in-Skipped
unfolding settled
returns-in-Skipped c = rw c.in-Skipped.is c.after_line-in-Skipped.ensures

pub returns-in-Value : goal.returns-in-Value
unfolding settled
returns-in-Value c = rw (c.in-Value.is, ← c.keep-noted.ensures, ← c.fields_after.ensures) c.after_line-in-Value.ensures

pub returns-in-Bytes : goal.returns-in-Bytes
unfolding settled
returns-in-Bytes c = rw (c.in-Bytes.is, ← c.field_end-told.ensures, ← c.fields_after-in-Bytes.ensures) c.after_line-in-Bytes.ensures

pub returns-in-Fault : goal.returns-in-Fault
unfolding settled
returns-in-Fault c = rw c.in-Fault.is c.after_line-in-Fault.ensures

pub returns-in-Over : goal.returns-in-Over
unfolding settled
returns-in-Over c = rw c.in-Over.is c.after_line-in-Over.ensures
