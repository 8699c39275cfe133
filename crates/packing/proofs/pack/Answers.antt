-- `packing::pack` meets its contract: where nothing is refused, what `pack_all` asks is there.
use Rattle.std.proofs.Common.{rules}
use Rattle.ground.specs.AnswerLaws.{answer-done}
use Rattle.packing.specs.Refusals.{pack-allowed}
use Rattle.packing.proofs.pack.Goals as goal

pub pack_all-requires : goal.pack_all-requires
pack_all-requires c = pack-allowed _ _ (search (answer-done, rules))
