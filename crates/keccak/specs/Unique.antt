-- No second answer meets the permutation's contract.
-- Rests on Keccak, and on Outcome of the crate ground.
use Rattle.std.specs.Prelude.{◌≡◌, List, ℕ}
use Rattle.ground.specs.Outcome.{unique-equation}
use Rattle.keccak.specs.Keccak.{keccak_f}

pub unique-permute : (a : List ℕ) {r r' : List ℕ} → r ≡ keccak_f a → r' ≡ keccak_f a → r ≡ r'
unique-permute a = unique-equation
