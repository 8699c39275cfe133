-- `snova::snova_verify` meets its contract: the number of the answer that `verdict::verify` gave.
use Rattle.snova.proofs.interface.snova_verify.Goals as goal

pub returns : goal.returns
returns c = let called = c.verify in record { answer = called.result; meets = called.ensures; is = c.number.ensures }
