-- `snova::snova_sign` meets its contract: the number of the answer that `signing::sign` gave.
use Rattle.snova.proofs.interface.snova_sign.Goals as goal

pub returns : goal.returns
returns c = let called = c.sign in record { answer = called.result; meets = called.ensures; is = c.number.ensures }
