-- The elements of a stream's blocks laid out one to a byte.
-- Rests on packing's Spread and on scheme's blocks.
use Rattle.std.specs.Prelude.{◌≡◌, List, ℕ, ◌+◌, ◌-◌, ◌*◌, ◌/◌, ◌%◌, ◌<◌, ◌≤◌, get_or}
use Rattle.std.proofs.Common.{ap, ◌∙◌, mul-le-mul, mul-le-mul_left, mul-le-mul_right, arith}
use Rattle.ground.specs.Place.{row_fits}
use Rattle.packing.specs.Packing.{element}
use Rattle.packing.specs.Spread.{Spread}
use Rattle.scheme.specs.Streams.{block_of}

-- the blocks number, .. , number + count - 1 stand in flat from `place` on, element after element
pub record Laid (l count : ℕ) (stream : List ℕ) (number place : ℕ) (flat : List ℕ) : Type 0 where
  pub early : place ≤ 1
  pub entry : (k r c : ℕ) → k < count → r < l → c < l → get_or flat (place + r * l + c + k * (l * l)) 0 ≡ block_of l stream (number + k) r c

-- an entry of block k is one of the elements of count blocks
entry-within : (l count : ℕ) {k r c : ℕ} → k < count → r < l → c < l → r * l + c + k * (l * l) < count * (l * l)
entry-within l count {k} {r} {c} hk hr hc = omega (arith, row_fits l hr, row_fits (l * l) hk)

pub laid_from : (l count : ℕ) (stream : List ℕ) (number : ℕ) {start end n : ℕ} {before flat : List ℕ} → start ≡ number * (l * l) / 2
    → end ≡ (number + count) * (l * l) → n ≡ end / 2 + end % 2 - start → Spread stream start n before flat → Laid l count stream number (number * (l * l) % 2) flat
unfolding block_of
laid_from l count stream number {start} {end} {n} start_is end_is n-is p = record {
  early = omega arith;
  entry = λ k r c hk hr hc.
      let place = number * (l * l) % 2 + r * l + c + k * (l * l) in
      let inside : number * (l * l) % 2 + r * l + c + k * (l * l) < 2 * n = omega (arith, entry-within l count hk hr hc) in
      let at : 2 * start + (number * (l * l) % 2 + r * l + c + k * (l * l)) ≡ (number + k) * (l * l) + (r * l + c) = omega arith in
      p.elements _ inside ∙ ap (element stream) at;
}

-- ---- sizes that the code needs

-- one block has room where count of them have
pub block_room : {count room : ℕ} (l : ℕ) → 0 < count → count * (l * l) ≤ room → l * l ≤ room
block_room l some h = omega (arith, mul-le-mul_right (l * l) some)

-- there are not more blocks than elements
pub blocks-le : {l : ℕ} (n : ℕ) → 0 < l → n ≤ n * (l * l)
blocks-le {l} n some = omega (arith, mul-le-mul_left n (mul-le-mul some some))
