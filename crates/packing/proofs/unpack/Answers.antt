-- `packing::unpack` meets its contract: where nothing is refused, what `unpack_all` asks is there.
use Rattle.std.proofs.Common.{rules}
use Rattle.ground.specs.AnswerLaws.{answer-done}
use Rattle.packing.specs.Refusals.{unpack-allowed}
use Rattle.packing.proofs.unpack.Goals as goal

pub unpack_all-requires : goal.unpack_all-requires
unpack_all-requires c = unpack-allowed _ _ (search (answer-done, rules))
