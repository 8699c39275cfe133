-- A row of zeros: what a cleared buffer holds.
-- Rests on the kit's `replicate`.
use Rattle.std.specs.Prelude.{◌≡◌, List, ◌++◌, ℕ, ◌≤◌, length, get_or, drop, replicate}
use Rattle.std.proofs.Common.{ap, append-nil, arith, drop_of_length-le}
use Rattle.std.proofs.Math.Decide.{dec_lt}
use Rattle.std.proofs.lemmas.List.{length-replicate, get_or-replicate}
use Rattle.std.proofs.Math.ListN.{get_or-eq_default}

abbrev pub zeros : ℕ → List ℕ
zeros n = replicate n 0

pub length-zeros : (n : ℕ) → length (zeros n) ≡ n
length-zeros n = length-replicate n 0

-- every place reads 0, past the end too
pub zero-at : (n k : ℕ) → get_or (zeros n) k 0 ≡ 0
zero-at n k = elim (dec_lt k n) [ yes h ↦ get_or-replicate n k 0 0 h | no h ↦ get_or-eq_default (zeros n) 0 (omega (arith, length-zeros n)) ]

-- a list that was filled from the front with zeros, at the end
pub zeros-end : (d : List ℕ) (n : ℕ) → n ≤ length d → length d ≤ n → zeros n ++ drop n d ≡ zeros (length d)
zeros-end d n h l = let e : n ≡ length d = omega arith in rw (drop_of_length-le d l, append-nil) (ap zeros e)
