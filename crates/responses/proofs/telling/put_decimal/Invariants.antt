-- Invariant: the digits that are left to put before the text so far make the whole. Rests on digits-stop, digits-go and digits-out.
use Rattle.std.proofs.Common.{◌≡◌, ◌-◌}
use Rattle.responses.specs.Placed.{put_digits}
use Rattle.responses.proofs.telling.put_decimal.Given as goal

abbrev pub invariant-loop : goal.invariant-loop
invariant-loop l = put_digits (20 - l.counter) l.rest l.here ≡ put_digits 20 l.n l.initial.here
