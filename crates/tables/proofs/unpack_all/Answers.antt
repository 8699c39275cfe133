-- `tables::unpack_all` meets its contract: a cleared buffer that gains the elements holds them.
use Rattle.tables.specs.Unpacked.{unpacked-from}
use Rattle.tables.proofs.unpack_all.Goals as goal

pub returns : goal.returns
returns c =
    unpacked-from c.clear.ensures c.add_elements.ensures
