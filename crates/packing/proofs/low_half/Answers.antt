-- `packing::low_half` meets its contract: the mask keeps the low four bits.
use lib.Bits.{and_mask}
use Rattle.packing.proofs.low_half.Goals as goal

pub returns : goal.returns
returns c = and_mask c.args.b 4
