-- Invariant: the bytes from i on stand before the text. Rests on Placed.
use Rattle.std.proofs.Common.{◌≡◌, drop}
use Rattle.responses.specs.Placed.{put_all}
use Rattle.responses.proofs.telling.put_word.Given as goal

abbrev pub invariant-loop-i : goal.invariant-loop-i
invariant-loop-i l = l.here ≡ put_all (drop l.i l.word) l.initial.here
