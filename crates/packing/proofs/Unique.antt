-- No second outcome meets the contract of `put`; of the other functions that stands in specs/Unique. Rests on Written.
use Rattle.std.specs.Prelude.{◌≡◌, List, ℕ}
use Rattle.packing.specs.Packing.{Bytes}
use Rattle.packing.specs.Written.{Put}
use Rattle.packing.proofs.Written.{put-unique}

pub unique-put : {s t u : List ℕ} {e x : ℕ} → Bytes t → Bytes u → Put s e x t → Put s e x u → t ≡ u
unique-put bt bu a b = put-unique bt bu a b
