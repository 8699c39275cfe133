-- `snova::snova_keygen` meets its contract: the number of the answer that `keys::generate` gave.
use Rattle.snova.proofs.interface.snova_keygen.Goals as goal

pub returns : goal.returns
returns c = let called = c.generate in record { answer = called.result; meets = called.ensures; is = c.number.ensures }
