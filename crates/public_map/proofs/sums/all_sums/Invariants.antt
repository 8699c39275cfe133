-- `public_map::sums::all_sums` meets its contract. The invariant: the first i matrix indices are done. Rests on MapSums.
use Rattle.std.proofs.Common.{◌≡◌, length}
use Rattle.public_map.specs.MapSums.{Summing}
use Rattle.sets.specs.Numbers.{numbers}
use Rattle.public_map.proofs.sums.all_sums.Given as goal

abbrev pub invariant-loop-i : goal.invariant-loop-i
invariant-loop-i l = (length l.sums ≡ length l.initial.sums) × Summing (numbers l.set) l.public l.key l.w l.i l.sums
