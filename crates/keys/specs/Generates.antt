-- What key generation promises (page 01, "Keys, signing, verdict").
-- Rests on scheme's key and its refusals, and on ground's Outcome.
use Rattle.std.specs.Prelude.{List, ℕ}
use Rattle.ground.specs.Answers.{Answer, first}
use Rattle.ground.specs.Outcome.{Writes}
use Rattle.sets.specs.declared.Set.{Set}
use Rattle.scheme.specs.Maps.{key_of}
use Rattle.scheme.specs.Refusals.{keygen_refusals}

-- Any set and any three buffers are answered. Where the set is not allowed or a buffer has another length than the set asks for, the answer is the
-- first refusal of 10, 11, 13 and 20 that applies, and the output is as it was. Else it is 0, and the output is the key, whole:
-- P22 = T12ᵗ·F12 + P21·T12 of every i, block by block, two elements to a byte, and zero in the spare half.
abbrev pub Generates : (set : Set) (public private before : List ℕ) (r : Answer) (after : List ℕ) → Type 0
Generates set public private before r after = Writes (first (keygen_refusals set public private before)) (key_of set public private) before r after
