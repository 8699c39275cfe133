-- `salvage::settle` meets its contract: marks, then the list. Rests on Marking.
use Rattle.salvage.specs.Marking.{no-marks}
use Rattle.std.proofs.Common.{rules}
use Rattle.salvage.proofs.listing.settle.Goals as goal

pub mark_all-requires : goal.mark_all-requires
mark_all-requires c = let pre = c.requires in record { is = pre.is; holds = pre.holds; long = search rules; clean = λ e. no-marks 65536 e }
